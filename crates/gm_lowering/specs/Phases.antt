-- Between statements of a sequential phase: what globals and nodes show of a store, and when supersteps are a parallel loop.
use Rattle.std.specs.Prelude.{Option, ◌≡◌, ◌≢◌, ◌<◌, ℕ, true, false, Some, None, Result, Ok, Err, List, [], ◌++◌, ◌∷◌, length, map, slice_index_or}
use Rattle.gm_value.specs.declared.values.VType.{VType}
use Rattle.gm_value.specs.declared.values.Value.{Value}
use Rattle.gm_value.specs.Bag.{IsIn}
use Rattle.gm_value.specs.Numbers.{zero_of}
use Rattle.gm_model.specs.Graphs.{NumberedGraph, node_count, edge_count}
use Rattle.gm_ast.specs.declared.tree.Key.{Key}
use Rattle.gm_ast.specs.declared.tree.Sort.TheVariants as Sorts
use Rattle.gm_ast.specs.Names.{is}
use Rattle.gm_ast.specs.Program.{Expr, Stmt}
use Rattle.gm_semantics.specs.declared.faults.Fault.{Fault}
use Rattle.gm_semantics.specs.Contributions.{Contribution, statement_of}
use Rattle.gm_semantics.specs.Faults.{joined}
use Rattle.gm_semantics.specs.Iterations.{Loop, begun}
use Rattle.gm_semantics.specs.Laws.{OneReduction}
use Rattle.gm_semantics.specs.Levels.{nodes}
use Rattle.gm_semantics.specs.Loops.{iteration, parallel}
use Rattle.gm_semantics.specs.Statements.{variable_at}
use Rattle.gm_semantics.specs.Stores.{Store, write}
use Rattle.gm_image.specs.Program.{Program}
use Rattle.gm_machine.specs.Expressions.{value_at, edge_value_at}
use Rattle.gm_machine.specs.Machine.{Nodes, Stepped, block_at, superstep}
use Rattle.gm_lowering.specs.Layouts.{Layout, is_global, is_register, has_value}
use Rattle.gm_lowering.specs.Places.{Spot, segment, spots_in}
use Rattle.gm_lowering.specs.Terms.{Env, own_env}
use Rattle.gm_lowering.specs.Bodies.{spots_of}
use Rattle.gm_lowering.specs.Showing.{fault_of}
use Rattle.gm_lowering.specs.Sites.{phase_value, IsInGraph, HoldLocals, HoldProperties}
use Rattle.gm_lowering.specs.OwnLoops.{IsOwnLoop, own_block, PicksTyped}
use Rattle.gm_lowering.specs.Settles.{HasSpot, spot_of_fault, HaveRoom}
use Rattle.gm_value.specs.declared.values.Value.TheVariants.{At}
use Rattle.gm_semantics.specs.declared.slots.Slot.TheVariants.{Scalar}
use Rattle.gm_typed_stores.specs.Tells.{TypeTable}

-- the globals of the procedure's scalars are in range and apart from each other
pub record GlobalsApart (c : Layout) (globals : ℕ) : Type 0 where
  pub within : (x : ℕ) → x < length c.declarations → is_global (variable_at c.declarations x) ≡ true → c.global x < globals
  pub apart : (x y : ℕ) → x < length c.declarations → y < length c.declarations → is_global (variable_at c.declarations x) ≡ true → is_global (variable_at c.declarations y) ≡ true
      → c.global x ≡ c.global y → x ≡ y

-- the nodes in the scalars of the procedure are nodes of the graph
abbrev pub NodesInGraph : Layout → NumberedGraph → Store → Type 0
NodesInGraph c g r = (x : ℕ) → x < length c.declarations → is_global (variable_at c.declarations x) ≡ true → IsInGraph g (r.scalar x)

-- globals and nodes show a store: scalars of the procedure are in globals, and properties in fields; what is declared in parallel loops has its first value, in registers too; and no message waits. What stands as a scalar in a property or in the graph is not shown
pub record Shown (c : Layout) (registers : List VType) (fields : ℕ) (g : NumberedGraph) (globals : List Value) (s : Nodes) (r : Store) : Type 0 where
  pub scalars : (x : ℕ) → x < length c.declarations → is_register (variable_at c.declarations x) ≡ false → has_value (variable_at c.declarations x) ≡ true
      → phase_value c globals x ≡ r.scalar x
  pub locals : HoldLocals c (map zero_of registers) r
  pub properties : (k : ℕ) → k < node_count g → HoldProperties c (slice_index_or s.fields k []) k r
  pub widths : (k : ℕ) → k < node_count g → length (slice_index_or s.fields k []) ≡ fields
  pub all_nodes : length s.fields ≡ node_count g
  pub idle : s.sent ≡ []

-- the columns of the graph hold the edge properties
abbrev pub EdgesShown : Layout → NumberedGraph → Store → Type 0
EdgesShown c g r =
    (p e : ℕ) → p < length c.declarations → is Sorts.EdgeProperty (variable_at c.declarations p) ≡ true → e < edge_count g → edge_value_at g (c.column p) e ≡ r.edge p e

-- globals that no scalar of the procedure has keep their values
abbrev pub OthersKept : Layout → List Value → List Value → Type 0
OthersKept c globals new =
    (i : ℕ) → ((x : ℕ) → x < length c.declarations → is_global (variable_at c.declarations x) ≡ true → c.global x ≢ i) → value_at new i ≡ value_at globals i

-- a superstep without a fault, after which globals and nodes show a store
pub record Leaves (c : Layout) (registers : List VType) (fields : ℕ) (g : NumberedGraph) (globals : List Value) (r : Store) (t : Stepped) : Type 0 where
  pub fine : t.fault ≡ None
  pub shown : Shown c registers fields g t.globals t.nodes r
  pub others : OthersKept c globals t.globals
  pub count : length t.globals ≡ length globals

-- a superstep is a parallel loop that ends so: with a store that it leaves, or with the loop's fault, which is among some spots
abbrev pub StepIs : Layout → Env → List Spot → List VType → ℕ → NumberedGraph → List Value → Result Store Fault → Stepped → Type 0
StepIs c v spots registers fields g globals (Ok r) t = Leaves c registers fields g globals r t
StepIs c v spots registers fields g globals (Err f) t = (t.fault ≡ Some (fault_of v f)) × HasSpot (spot_of_fault f) spots

-- what a loop gives in the end: to each slot by one reduction, and of one target what one statement gives is of one total
pub record GivesApart (cs : List Contribution) : Type 0 where
  pub one : OneReduction cs
  pub one_total : (x y : Contribution) → IsIn x cs → IsIn y cs → x.slots ≡ y.slots → statement_of x ≡ statement_of y → x.total ≡ y.total

-- the contributions of a loop
abbrev pub given_in : Loop → Key → Expr → Stmt → Store → List Contribution
given_in loop key test body r = joined (map (λ it. it.with_outermost) (map (iteration loop key test body r) (nodes loop.graph)))

-- the spots of an own loop
abbrev pub own_spots : Layout → ℕ → Key → Expr → Stmt → List Spot
own_spots c n key test body = spots_in test key ++ spots_of c n (n ∷ []) true body

-- one superstep with an own loop's block is the loop, where what it picks has types
abbrev pub OwnLoopsAreSupersteps : Type 0
OwnLoopsAreSupersteps =
    (c : Layout) (p : Program) (fields base q kind : ℕ) (loop : Loop) (key : Key) (test : Expr) (body : Stmt) (globals : List Value) (s : Nodes) (r : Store) (table : TypeTable) (its : List ℕ) (result : Option VType)
    → IsOwnLoop c p.registers fields loop test body
    → ((k : ℕ) → k < node_count loop.graph → PicksTyped c table its result loop body (begun (write r (Scalar loop.outer) (At (Some k)))))
    → GlobalsApart c (length globals)
    → HaveRoom base (own_spots c loop.outer key test body) (length p.places)
    → block_at p q ≡ own_block c (segment base (own_spots c loop.outer key test body)) loop.outer kind key test body
    → Shown c p.registers fields loop.graph globals s r
    → NodesInGraph c loop.graph r
    → GivesApart (given_in loop key test body r)
    → StepIs c (own_env c (segment base (own_spots c loop.outer key test body)) loop.outer) (own_spots c loop.outer key test body) p.registers fields loop.graph globals
    (parallel loop key test body (nodes loop.graph) r) (superstep p loop.graph q globals s)
