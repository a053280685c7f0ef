-- Home loops: what an each does at an edge is the inner loop's turn there, whatever its registers held before.
use Rattle.std.specs.Prelude.{◌≡◌, ◌<◌, ℕ, nat_eq, Bool, true, false, ◌&&◌, Option, Some, None, List, [], ◌∷◌, ◌++◌, length, map}
use Rattle.std.specs.List.{list_all}
use Rattle.gm_value.specs.declared.values.VType.{VType}
use Rattle.gm_value.specs.declared.values.Value.TheVariants.{At}
use Rattle.gm_value.specs.Numbers.{zero_of}
use Rattle.gm_model.specs.Graphs.{node_count}
use Rattle.gm_ast.specs.declared.tree.Key.{Key}
use Rattle.gm_ast.specs.declared.tree.Sort.TheVariants as Sorts
use Rattle.gm_ast.specs.Names.{is}
use Rattle.gm_ast.specs.Program.{Expr, Stmt, Program}
use Rattle.gm_forms.specs.Typing.{type_at}
use Rattle.gm_semantics.specs.declared.faults.Fault.{Fault}
use Rattle.gm_semantics.specs.declared.slots.Slot.TheVariants.{Scalar}
use Rattle.gm_semantics.specs.Iterations.{Loop, AtEdge, Iteration, begun, turn_at, does}
use Rattle.gm_semantics.specs.Statements.{variable_at}
use Rattle.gm_semantics.specs.Stores.{Store, write}
use Rattle.gm_typed_stores.specs.Tells.{TypeTable}
use Rattle.gm_image.specs.Program.{Line}
use Rattle.gm_machine.specs.Expressions.{value_at, edge_value_at}
use Rattle.gm_machine.specs.Vertex.{VertexContext, VertexState, After, lines_after}
use Rattle.gm_lowering.specs.Layouts.{Layout, is_global, is_register, has_value, layout, register_types, body_positions}
use Rattle.gm_lowering.specs.Places.{Segment}
use Rattle.gm_lowering.specs.Terms.{Env, term, each_env}
use Rattle.gm_lowering.specs.Plans.{Load, SenderItself, SenderProperty, SenderDegree, EdgeValue, loads_in}
use Rattle.gm_lowering.specs.Bodies.{under, lines_of}
use Rattle.gm_lowering.specs.Blocks.{reads_scalar, zero_lines, each_site}
use Rattle.gm_lowering.specs.Showing.{fault_of}
use Rattle.gm_lowering.specs.Sites.{finds, is_local, is_body, given, phase_value, IsInGraph, HoldProperties, IsApart}
use Rattle.gm_lowering.specs.OwnLoops.{PicksTyped, HasSpares}
use Rattle.gm_lowering.specs.MessageLoops.{sets_nothing, inner_gives, is_to_scalars, is_to_nodes}

-- what a node knows of the other end of an edge: the neighbour itself, and the edge's values
abbrev pub is_at_edge : Load → Bool
is_at_edge SenderItself = true
is_at_edge (SenderProperty p) = false
is_at_edge (SenderDegree d) = false
is_at_edge (EdgeValue p) = true

-- an each at node n finds what it reads of its own node, the neighbour i itself, and the edge's values
abbrev pub home_finds : Layout → ℕ → ℕ → Expr → Bool
home_finds c n i e = finds c (n ∷ i ∷ []) true e && list_all is_at_edge (loads_in i e)

-- the lines of an each
abbrev pub home_lines : Layout → Segment → ℕ → ℕ → ℕ → Key → Expr → Stmt → List Line
home_lines c seg n i kind key test body = under (term (each_env c seg n i) key test) (zero_lines c body ++ lines_of (each_site c seg n i) kind body)

-- an inner loop of a loop that is evaluated at the outer node: its iterators are two and no locals; its filter reads no locals, and it does what an inner body may; the loop reduces no property through other nodes; registers begin with the first values of their locals; and it has spare registers for its tuples
pub record IsHomeLoop (c : Layout) (registers : List VType) (fields : ℕ) (loop : Loop) (i : ℕ) (test : Expr) (body : Stmt) : Type 0 where
  pub apart : IsApart c (length registers) fields
  pub outer : is_register (variable_at c.declarations loop.outer) ≡ false
  pub inner : is_register (variable_at c.declarations i) ≡ false
  pub two : nat_eq i loop.outer ≡ false
  pub types : (x : ℕ) → loop.vtype x ≡ (variable_at c.declarations x).vtype
  pub depths : (x : ℕ) → loop.depth x ≡ (variable_at c.declarations x).depth
  pub own : (p : ℕ) → loop.pushed p ≡ false
  pub firsts : (x : ℕ) → is_local c x ≡ true → value_at (map zero_of registers) (c.register x) ≡ zero_of (type_at c.declarations x)
  pub plain : (x : ℕ) → is_local c x ≡ true → reads_scalar x test ≡ false
  pub found : home_finds c loop.outer i test ≡ true
  pub fits : is_body c (home_finds c loop.outer i) sets_nothing (inner_gives c loop.outer (home_finds c loop.outer i)) body ≡ true
  pub spares : HasSpares c (length registers) (body_positions c.declarations body)

-- what a vertex has given since a state is what a turn has given: puts to scalars, and folds to its own properties. Its fields are as they were
pub record HomeGave (c : Layout) (v : Env) (before : VertexState) (it : Iteration) (w : VertexState) : Type 0 where
  pub puts : w.puts ≡ before.puts ++ map (given c v) it.with_outermost
  pub folds : w.folds ≡ before.folds ++ map (given c v) it.with_inner
  pub scalars : list_all is_to_scalars it.with_outermost ≡ true
  pub nodes : list_all is_to_nodes it.with_inner ≡ true
  pub messages : w.messages ≡ before.messages
  pub fields : w.fields ≡ before.fields
  pub count : length w.registers ≡ length before.registers
  pub deferred : it.deferred ≡ []

-- a vertex at an edge shows the store of an outer iteration: what it sees, its own properties, and the edge's values; its locals have their first values there
pub record EdgeShows (c : Layout) (loop : Loop) (registers : List VType) (fields : ℕ) (s : VertexContext) (w : VertexState) (r : Store) : Type 0 where
  pub graph : s.graph ≡ loop.graph
  pub scalar : (x : ℕ) → nat_eq x loop.outer ≡ false → x < length c.declarations → is_register (variable_at c.declarations x) ≡ false → has_value (variable_at c.declarations x) ≡ true
      → phase_value c s.globals x ≡ r.scalar x
  pub in_graph : (x : ℕ) → nat_eq x loop.outer ≡ false → x < length c.declarations → is_global (variable_at c.declarations x) ≡ true → IsInGraph loop.graph (r.scalar x)
  pub at_outer : r.scalar loop.outer ≡ At (Some s.node)
  pub locals : (x : ℕ) → is_local c x ≡ true → value_at (map zero_of registers) (c.register x) ≡ r.scalar x
  pub properties : HoldProperties c w.fields s.node r
  pub edges : (p : ℕ) → p < length c.declarations → is Sorts.EdgeProperty (variable_at c.declarations p) ≡ true → edge_value_at loop.graph (c.column p) s.near.edge ≡ r.edge p s.near.edge
  pub register_count : length w.registers ≡ length registers
  pub field_count : length w.fields ≡ fields
  pub inside : s.node < node_count loop.graph
  pub near_inside : s.near.node < node_count loop.graph

-- how the lines of an each end that stand for a turn
abbrev pub TurnEnds : Layout → Env → VertexState → Iteration → After → Option Fault → Type 0
TurnEnds c v before it a None = (a.fault ≡ None) × HomeGave c v before it a.state
TurnEnds c v before it a (Some f) = (a.fault ≡ Some (fault_of v f)) × HomeGave c v before it a.state

-- the lines of an each, at an edge, are the inner loop's turn there, where what it picks has types
abbrev pub EachLinesAreTurns : Type 0
EachLinesAreTurns =
    (c : Layout) (seg : Segment) (registers : List VType) (fields : ℕ) (loop : Loop) (i : ℕ) (kind : ℕ) (key : Key) (test : Expr) (body : Stmt) (s : VertexContext) (w : VertexState) (r : Store)
    (table : TypeTable) (its : List ℕ) (result : Option VType)
    → IsHomeLoop c registers fields loop i test body
    → PicksTyped c table its result loop body (begun (write r (Scalar i) (At (Some s.near.node))))
    → EdgeShows c loop registers fields s w r
    → let it = turn_at loop (AtEdge s.near.edge) key test (does body (AtEdge s.near.edge) loop) i s.near.node r in
    let v = each_env c seg loop.outer i in
    TurnEnds c v w it (lines_after s (home_lines c seg loop.outer i kind key test body) 0 w) it.fault

-- in a program's layout registers begin with the first values of their locals
abbrev pub RegistersBegin : Type 0
RegistersBegin = (p : Program) (x : ℕ) → is_local (layout p) x ≡ true → value_at (map zero_of (register_types p)) ((layout p).register x) ≡ zero_of (type_at (layout p).declarations x)
