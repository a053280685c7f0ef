-- How lines end that stand for a part of a body: what a vertex's state shows of an iteration, and what it has given.
use Rattle.std.specs.Prelude.{◌≡◌, ◌<◌, ℕ, nat_eq, nat_lt, Bool, true, false, ◌&&◌, ◌||◌, if◌then◌else◌, Some, None, List, [], ◌∷◌, length, map}
use Rattle.gm_value.specs.declared.values.Value.{Value}
use Rattle.gm_value.specs.declared.values.Value.TheVariants.{At}
use Rattle.gm_value.specs.declared.reductions.Reduce.{Reduce}
use Rattle.gm_value.specs.Numbers.{zero_of}
use Rattle.gm_model.specs.Graphs.{NumberedGraph, node_count}
use Rattle.gm_ast.specs.declared.tree.Sort.TheVariants as Sorts
use Rattle.gm_ast.specs.declared.tree.Target.{Target}
use Rattle.gm_ast.specs.declared.tree.Target.TheVariants as T
use Rattle.gm_ast.specs.Names.{is}
use Rattle.gm_ast.specs.Program.{Expr, Const, Var, Property, EdgeProperty, Degree, NodeCount, EdgeCount, Live, Unary, Binary, Both, Either, Choose, Folded, Stmt, Skip, Then, Declare, DeclareEdge, Assign, Combine, If}
use Rattle.gm_ast.specs.Ways.{is_in}
use Rattle.gm_forms.specs.Forms.{may}
use Rattle.gm_semantics.specs.Statements.{variable_at}
use Rattle.gm_semantics.specs.declared.slots.Slot.{Slot}
use Rattle.gm_semantics.specs.declared.slots.Slot.TheVariants as slots
use Rattle.gm_semantics.specs.Contributions.{Contribution}
use Rattle.gm_semantics.specs.Iterations.{Iteration}
use Rattle.gm_semantics.specs.Stores.{Store}
use Rattle.gm_machine.specs.Expressions.{value_at}
use Rattle.gm_machine.specs.Taking.{Contribution as Given}
use Rattle.gm_machine.specs.Vertex.{VertexContext, VertexState}
use Rattle.gm_lowering.specs.Layouts.{Layout, is_global, is_register, has_value}
use Rattle.gm_lowering.specs.Terms.{Env}

-- whether a scalar is found: an iterator of the site, or a declared variable that is not the graph
abbrev pub finds_scalar : Layout → List ℕ → ℕ → Bool
finds_scalar c its x =
    is_in its x || (nat_lt x (length c.declarations) && has_value (variable_at c.declarations x))

-- whether a node's check is found: an iterator's, or that of a scalar of the procedure, which no body changes
abbrev pub finds_node : Layout → List ℕ → ℕ → Bool
finds_node c its x =
    is_in its x || (nat_lt x (length c.declarations) && is_global (variable_at c.declarations x))

-- whether an expression with no reduction in it is found where iterators are known, and an edge or none: it reads properties and degrees through these alone, and each property that it reads has a field, or is one of edges
abbrev pub finds : Layout → List ℕ → Bool → Expr → Bool
finds c its edge (Const v) = true
finds c its edge (Var x at) = finds_scalar c its x
finds c its edge (Property x p at) = is_in its x && c.is_kept p
finds c its edge (EdgeProperty x p at) = edge && (nat_lt p (length c.declarations) && is Sorts.EdgeProperty (variable_at c.declarations p))
finds c its edge (Degree d x at) = is_in its x
finds c its edge NodeCount = true
finds c its edge EdgeCount = true
finds c its edge (Live x at) = finds_node c its x
finds c its edge (Unary op at e) = finds c its edge e
finds c its edge (Binary op at a b) = finds c its edge a && finds c its edge b
finds c its edge (Both a b) = finds c its edge a && finds c its edge b
finds c its edge (Either a b) = finds c its edge a && finds c its edge b
finds c its edge (Choose e a b) = finds c its edge e && (finds c its edge a && finds c its edge b)
finds c its edge (Folded f h test e) = false

-- whether two lists are equally long
abbrev pub same_length : {A B : Type 0} → List A → List B → Bool
same_length [] [] = true
same_length (x ∷ xs) (y ∷ ys) = same_length xs ys
same_length _ _ = false

-- whether a variable is a local of a loop
abbrev pub is_local : Layout → ℕ → Bool
is_local c x = nat_lt x (length c.declarations) && is_register (variable_at c.declarations x)

-- whether a body is one of a site, by its expressions, the properties that it may set, and its reductions; it sets its locals
abbrev pub is_body : Layout → (Expr → Bool) → (ℕ → ℕ → Bool) → (Reduce → List Target → List Expr → Bool) → Stmt → Bool
is_body c found sets gives Skip = true
is_body c found sets gives (Then a b) = is_body c found sets gives a && is_body c found sets gives b
is_body c found sets gives (Declare k x e) = is_local c x && may found e
is_body c found sets gives (DeclareEdge x y at) = true
is_body c found sets gives (Assign k (T.Scalar x at) e) = is_local c x && found e
is_body c found sets gives (Assign k (T.Property x p at) e) = sets x p && found e
is_body c found sets gives (Combine k total r ts es) = gives r ts es
is_body c found sets gives (If k e a b) = found e && (is_body c found sets gives a && is_body c found sets gives b)
is_body c found sets gives _ = false

-- the number of a slot in globals or fields
abbrev pub slot_at : Layout → Slot → ℕ
slot_at c (slots.Scalar x) = c.global x
slot_at c (slots.Node p n) = c.field p

-- whether slots are scalars, by the first of them
abbrev pub are_of_scalars : List Slot → Bool
are_of_scalars [] = false
are_of_scalars (slots.Scalar x ∷ xs) = true
are_of_scalars (slots.Node p n ∷ xs) = false

-- a contribution as the machine holds it
abbrev pub given : Layout → Env → Contribution → Given
given c v a = record {
  place = v.place a.total.key a.total.place;
  reduce = a.reduce;
  slots = map (slot_at c) a.slots;
  values = a.values;
}

-- what a variable that is no local has at a vertex: one of the procedure is in its global, and another one has its first value
abbrev pub phase_value : Layout → List Value → ℕ → Value
phase_value c globals x =
    let v = variable_at c.declarations x in if is_global v then value_at globals (c.global x) else zero_of v.vtype

-- a value is a node of the graph if it is a node
abbrev pub IsInGraph : NumberedGraph → Value → Type 0
IsInGraph g v = (n : ℕ) → v ≡ At (Some n) → n < node_count g

-- what all vertices see of a store: variables that are no locals, and the nodes in the scalars of the procedure
pub record SeesPhase (c : Layout) (g : NumberedGraph) (globals : List Value) (r : Store) : Type 0 where
  pub scalar : (x : ℕ) → x < length c.declarations → is_register (variable_at c.declarations x) ≡ false → has_value (variable_at c.declarations x) ≡ true
      → phase_value c globals x ≡ r.scalar x
  pub in_graph : (x : ℕ) → x < length c.declarations → is_global (variable_at c.declarations x) ≡ true → IsInGraph g (r.scalar x)

-- registers hold the locals, and fields the properties of a node
abbrev pub HoldLocals : Layout → List Value → Store → Type 0
HoldLocals c registers r =
    (x : ℕ) → x < length c.declarations → is_register (variable_at c.declarations x) ≡ true → value_at registers (c.register x) ≡ r.scalar x

abbrev pub HoldProperties : Layout → List Value → ℕ → Store → Type 0
HoldProperties c fields n r = (p : ℕ) → c.is_kept p ≡ true → value_at fields (c.field p) ≡ r.node p n

-- numbers of registers and fields are in range and apart from each other
pub record IsApart (c : Layout) (registers fields : ℕ) : Type 0 where
  pub register_within : (x : ℕ) → x < length c.declarations → is_register (variable_at c.declarations x) ≡ true → c.register x < registers
  pub registers_apart : (x y : ℕ) → x < length c.declarations → y < length c.declarations → is_register (variable_at c.declarations x) ≡ true → is_register (variable_at c.declarations y) ≡ true
      → c.register x ≡ c.register y → x ≡ y
  pub field_within : (p : ℕ) → c.is_kept p ≡ true → c.field p < fields
  pub fields_apart : (p q : ℕ) → c.is_kept p ≡ true → c.is_kept q ≡ true → c.field p ≡ c.field q → p ≡ q

-- a vertex that runs an own body shows an iteration at node n: what it sees, its locals and properties, what it has put, and nothing sent or left to take
pub record OwnShows (c : Layout) (v : Env) (g : NumberedGraph) (iterator n registers fields : ℕ) (s : VertexContext) (it : Iteration) (w : VertexState) : Type 0 where
  pub fine : it.fault ≡ None
  pub node : s.node ≡ n
  pub graph : s.graph ≡ g
  pub inside : n < node_count g
  pub at_node : it.store.scalar iterator ≡ At (Some n)
  pub phase : (x : ℕ) → nat_eq x iterator ≡ false → x < length c.declarations → is_register (variable_at c.declarations x) ≡ false → has_value (variable_at c.declarations x) ≡ true
      → phase_value c s.globals x ≡ it.store.scalar x
  pub in_graph : (x : ℕ) → nat_eq x iterator ≡ false → x < length c.declarations → is_global (variable_at c.declarations x) ≡ true → IsInGraph g (it.store.scalar x)
  pub locals : HoldLocals c w.registers it.store
  pub properties : HoldProperties c w.fields n it.store
  pub register_count : length w.registers ≡ registers
  pub field_count : length w.fields ≡ fields

-- what a vertex has given is what an iteration has given
pub record OwnGave (c : Layout) (v : Env) (it : Iteration) (w : VertexState) : Type 0 where
  pub puts : w.puts ≡ map (given c v) it.with_outermost
  pub folds : w.folds ≡ []
  pub messages : w.messages ≡ []
  pub inner : it.with_inner ≡ []
  pub deferred : it.deferred ≡ []
