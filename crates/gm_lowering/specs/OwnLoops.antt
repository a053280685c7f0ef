-- One superstep of an own loop's block is the loop.
use Rattle.std.specs.Prelude.{◌≡◌, ◌≢◌, ◌<◌, ℕ, nat_eq, nat_lt, Bool, true, false, ◌&&◌, ◌||◌, if◌then◌else◌, Option, Some, None, List, [], ◌∷◌, ◌++◌, length, map}
use Rattle.std.specs.List.{list_all, list_any}
use Rattle.gm_value.specs.declared.values.VType.{VType}
use Rattle.gm_value.specs.declared.values.Value.{Value}
use Rattle.gm_value.specs.declared.reductions.Reduce.{Reduce}
use Rattle.gm_value.specs.declared.reductions.Reduce.TheVariants as reduce
use Rattle.gm_value.specs.Numbers.{zero_of}
use Rattle.gm_model.specs.Graphs.{NumberedGraph, node_count}
use Rattle.gm_ast.specs.declared.tree.Key.{Key}
use Rattle.gm_ast.specs.declared.tree.Target.{Target}
use Rattle.gm_ast.specs.declared.tree.Target.TheVariants as T
use Rattle.gm_ast.specs.Program.{Expr, Stmt, Then, Combine, If}
use Rattle.gm_forms.specs.Sharing.{are_distinct, variables_of}
use Rattle.gm_semantics.specs.declared.faults.Fault.{Fault}
use Rattle.gm_semantics.specs.Statements.{variable_at}
use Rattle.gm_semantics.specs.Stores.{Store, write}
use Rattle.gm_semantics.specs.Iterations.{Loop, Iteration, begun}
use Rattle.gm_semantics.specs.Loops.{iteration}
use Rattle.gm_image.specs.Program.{Program, Block}
use Rattle.gm_machine.specs.Machine.{context_at}
use Rattle.gm_machine.specs.Vertex.{After, vertex_after}
use Rattle.gm_lowering.specs.Layouts.{Layout, is_global, is_register, is_scalar_of, body_positions}
use Rattle.gm_lowering.specs.Places.{Spot, Segment, spot_at, place_index}
use Rattle.gm_lowering.specs.Plans.{is_property_of}
use Rattle.gm_lowering.specs.Terms.{Env, term, own_env}
use Rattle.gm_lowering.specs.Bodies.{under, lines_of}
use Rattle.gm_lowering.specs.Blocks.{body_block, own_site}
use Rattle.gm_lowering.specs.Settles.{HasSpot}
use Rattle.gm_lowering.specs.Showing.{fault_of}
use Rattle.gm_lowering.specs.Sites.{finds, same_length, is_body, SeesPhase, HoldLocals, HoldProperties, IsApart, OwnGave, is_local}
use Rattle.gm_value.specs.declared.values.Value.TheVariants.{At}
use Rattle.gm_forms.specs.Typing.{keeps_tuples}
use Rattle.gm_semantics.specs.declared.slots.Slot.TheVariants.{Scalar}
use Rattle.gm_typed_stores.specs.Tells.{TypeTable}
use Rattle.gm_typed_stores.specs.Stores.{IsTypedLoop, IsTypedIteration}
use Rattle.gm_typed_stores.specs.Laws.{IsWellTypedStmt}

-- whether there are any
abbrev pub are_any : {A : Type 0} → List A → Bool
are_any [] = false
are_any (x ∷ xs) = true

-- an own body finds what it reads through its iterator, sets its node's properties that have fields, and puts to scalars of the procedure
abbrev pub own_finds : Layout → ℕ → Expr → Bool
own_finds c n e = finds c (n ∷ []) false e

abbrev pub own_sets : Layout → ℕ → ℕ → ℕ → Bool
own_sets c n x p = nat_eq x n && c.is_kept p

-- whether a target is declared
abbrev pub is_declared : Layout → Target → Bool
is_declared c (T.Scalar x at) = nat_lt x (length c.declarations)
is_declared c (T.Property x p at) = nat_lt p (length c.declarations)

abbrev pub puts_to_scalars : Layout → (Expr → Bool) → Reduce → List Target → List Expr → Bool
puts_to_scalars c found r ts es =
    are_any ts && (list_all (is_scalar_of is_global c.declarations) ts && (list_all (is_declared c) ts && (same_length ts es && list_all found es)))

-- whether a target is a property of a node's iterator that has a field
abbrev pub is_kept_property : Layout → ℕ → Target → Bool
is_kept_property c i (T.Scalar x at) = false
is_kept_property c i (T.Property x p at) = nat_eq x i && c.is_kept p

-- a reduction to properties of such a node
abbrev pub folds_to : Layout → ℕ → (Expr → Bool) → Reduce → List Target → List Expr → Bool
folds_to c i found r ts es = are_any ts && (list_all (is_kept_property c i) ts && (same_length ts es && list_all found es))

-- whether a reduction that is done at once asks for its value whatever is held: And and Or do not
abbrev pub asks_always : Reduce → Bool
asks_always reduce.And = false
asks_always reduce.Or = false
asks_always r = true

-- an own body reduces to properties of its node at once, each named once
abbrev pub folds_at_once : Layout → ℕ → (Expr → Bool) → Reduce → List Target → List Expr → Bool
folds_at_once c n found r ts es = asks_always r && (are_distinct (variables_of ts) && folds_to c n found r ts es)

-- it keeps in one of its locals the better of what it holds and a value, by Min or Max
abbrev pub picks_at_once : Layout → (Expr → Bool) → Reduce → List Target → List Expr → Bool
picks_at_once c found r (T.Scalar x at ∷ []) (e ∷ []) = keeps_tuples r && (is_local c x && found e)
picks_at_once c found r _ _ = false

-- whether a target is a local, or a property of an iterator's node that has a field
abbrev pub is_own_target : Layout → ℕ → Target → Bool
is_own_target c n (T.Scalar x at) = is_local c x
is_own_target c n (T.Property x p at) = nat_eq x n && c.is_kept p

-- it keeps in several such targets, each named once and one of them a local at least, the better of the tuple that they hold and a new one, by Min or Max
abbrev pub tuples_at_once : Layout → ℕ → (Expr → Bool) → Reduce → List Target → List Expr → Bool
tuples_at_once c n found r (t ∷ (u ∷ ts)) es =
    let all = t ∷ (u ∷ ts) in
    keeps_tuples r && (list_any (is_scalar_of is_register c.declarations) all && (list_all (is_own_target c n) all
    && (are_distinct (variables_of all) && (same_length all es && list_all found es))))
tuples_at_once c n found r _ es = false

-- it keeps what its locals hold, one value or a tuple
abbrev pub keeps_at_once : Layout → ℕ → (Expr → Bool) → Reduce → List Target → List Expr → Bool
keeps_at_once c n found r ts es = picks_at_once c found r ts es || tuples_at_once c n found r ts es

-- it puts to scalars of the procedure, folds at once, or keeps
abbrev pub own_gives : Layout → ℕ → (Expr → Bool) → Reduce → List Target → List Expr → Bool
own_gives c n found r ts es = puts_to_scalars c found r ts es || (folds_at_once c n found r ts es || keeps_at_once c n found r ts es)

-- spare registers at so many positions are in range, apart from each other, and from those of the locals
pub record HasSpares (c : Layout) (registers positions : ℕ) : Type 0 where
  pub within : (i : ℕ) (t : VType) → i < positions → c.spare_register i t < registers
  pub apart : (i j : ℕ) (t u : VType) → i < positions → j < positions → c.spare_register i t ≡ c.spare_register j u → i ≡ j
  pub others : (i x : ℕ) (t : VType) → i < positions → x < length c.declarations → is_register (variable_at c.declarations x) ≡ true → c.register x ≢ c.spare_register i t

-- whether a body reduces to its locals
abbrev pub picks_in : Layout → Stmt → Bool
picks_in c (Then a b) = picks_in c a || picks_in c b
picks_in c (Combine k total r ts es) = list_any (is_scalar_of is_register c.declarations) ts
picks_in c (If k e a b) = picks_in c a || picks_in c b
picks_in c _ = false

-- a statement of a loop's body and the iteration in which it begins have the types of the declarations
pub record AreTyped (c : Layout) (table : TypeTable) (its : List ℕ) (result : Option VType) (loop : Loop) (st : Stmt) (it : Iteration) : Type 0 where
  pub declarations : table.declarations ≡ c.declarations
  pub around : IsTypedLoop table loop
  pub statement : IsWellTypedStmt table its result st
  pub iteration : IsTypedIteration table its it

-- where a body picks, it is so
abbrev pub PicksTyped : Layout → TypeTable → List ℕ → Option VType → Loop → Stmt → Iteration → Type 0
PicksTyped c table its result loop st it = picks_in c st ≡ true → AreTyped c table its result loop st it

-- where the folds of an own body may fault
abbrev pub fold_spots : Layout → ℕ → Stmt → List Spot
fold_spots c n (Then a b) = fold_spots c n a ++ fold_spots c n b
fold_spots c n (Combine k total r ts es) = if list_all (is_property_of n) ts then spot_at k total.place ∷ [] else []
fold_spots c n (If k e a b) = fold_spots c n a ++ fold_spots c n b
fold_spots c n _ = []

-- some spots have indices among those of so many places
abbrev pub HaveIndices : Segment → ℕ → List Spot → Type 0
HaveIndices seg places spots = (z : Spot) → HasSpot z spots → place_index seg z.fault.key z.fault.place < places

-- the block of an own loop's body under its filter
abbrev pub own_block : Layout → Segment → ℕ → ℕ → Key → Expr → Stmt → Block
own_block c seg n kind key test body = body_block (under (term (own_env c seg n) key test) (lines_of (own_site c seg n) kind body))

-- an own loop that is lowered: its iterator is no local, it does what an own body may, and it has spare registers for its tuples
pub record IsOwnLoop (c : Layout) (registers : List VType) (fields : ℕ) (loop : Loop) (test : Expr) (body : Stmt) : Type 0 where
  pub apart : IsApart c (length registers) fields
  pub iterator : is_register (variable_at c.declarations loop.outer) ≡ false
  pub types : (x : ℕ) → loop.vtype x ≡ (variable_at c.declarations x).vtype
  pub depths : (x : ℕ) → loop.depth x ≡ (variable_at c.declarations x).depth
  pub found : own_finds c loop.outer test ≡ true
  pub fits : is_body c (own_finds c loop.outer) (own_sets c loop.outer) (own_gives c loop.outer (own_finds c loop.outer)) body ≡ true
  pub spares : HasSpares c (length registers) (body_positions c.declarations body)

-- a node with its fields shows a store before a loop; registers begin with what the locals hold
pub record NodeShows (c : Layout) (g : NumberedGraph) (registers : List VType) (fields : ℕ) (globals values : List Value) (k : ℕ) (r : Store) : Type 0 where
  pub phase : SeesPhase c g globals r
  pub locals : HoldLocals c (map zero_of registers) r
  pub properties : HoldProperties c values k r
  pub field_count : length values ≡ fields
  pub inside : k < node_count g

-- how the step of a vertex ends that stands for an iteration: without a fault its fields hold what the iteration left; or with the iteration's fault. What was given is given
abbrev pub StepEnds : Layout → Env → ℕ → ℕ → Iteration → After → Option Fault → Type 0
StepEnds c v fields k it a None = (a.fault ≡ None) × HoldProperties c a.state.fields k it.store × (length a.state.fields ≡ fields) × OwnGave c v it a.state
StepEnds c v fields k it a (Some f) = (a.fault ≡ Some (fault_of v f)) × OwnGave c v it a.state

-- the step of each vertex with an own loop's block is the loop's iteration there, where the places of its folds have indices, and what it picks has types
abbrev pub OwnStepsAreIterations : Type 0
OwnStepsAreIterations =
    (c : Layout) (seg : Segment) (p : Program) (fields : ℕ) (loop : Loop) (kind : ℕ) (key : Key) (test : Expr) (body : Stmt) (globals values : List Value) (k : ℕ) (r : Store) (table : TypeTable) (its : List ℕ) (result : Option VType)
    → IsOwnLoop c p.registers fields loop test body → HaveIndices seg (length p.places) (fold_spots c loop.outer body) → PicksTyped c table its result loop body (begun (write r (Scalar loop.outer) (At (Some k)))) → NodeShows c loop.graph p.registers fields globals values k r
    → let it = iteration loop key test body r k in
    StepEnds c (own_env c seg loop.outer) fields k it (vertex_after p (own_block c seg loop.outer kind key test body) (context_at loop.graph globals k) [] values) it.fault
