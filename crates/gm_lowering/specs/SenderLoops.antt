-- Two supersteps are a loop whose eaches send, along its edges or through node variables.
use Rattle.std.specs.Prelude.{◌≡◌, ◌⊎◌, ◌≤◌, ℕ, Option, Some, None, Result, Err, List, ◌++◌, length, map, filter}
use Rattle.gm_base.specs.declared.places.Place.{Place}
use Rattle.gm_value.specs.declared.values.VType.{VType}
use Rattle.gm_value.specs.declared.values.Value.{Value}
use Rattle.gm_value.specs.Bag.{IsIn}
use Rattle.gm_model.specs.Graphs.{NumberedGraph, node_count}
use Rattle.gm_ast.specs.declared.tree.Head.{Head}
use Rattle.gm_ast.specs.declared.tree.Key.{Key}
use Rattle.gm_ast.specs.Program.{Expr, Stmt, Foreach}
use Rattle.gm_semantics.specs.declared.faults.Fault.{Fault}
use Rattle.gm_semantics.specs.Contributions.{Contribution, total_faults}
use Rattle.gm_semantics.specs.Faults.{lower, somes}
use Rattle.gm_semantics.specs.Iterations.{Loop}
use Rattle.gm_semantics.specs.Levels.{nodes}
use Rattle.gm_semantics.specs.Loops.{iteration, parallel}
use Rattle.gm_semantics.specs.Stores.{Store}
use Rattle.gm_typed_stores.specs.Tells.{TypeTable}
use Rattle.gm_image.specs.Program.{Program}
use Rattle.gm_machine.specs.Machine.{Nodes, Stepped, block_at, superstep}
use Rattle.gm_lowering.specs.Layouts.{Layout}
use Rattle.gm_lowering.specs.Places.{Spot, segment}
use Rattle.gm_lowering.specs.Terms.{Env, own_env}
use Rattle.gm_lowering.specs.Plans.{Away, aways}
use Rattle.gm_lowering.specs.Showing.{fault_of}
use Rattle.gm_lowering.specs.MessageLoops.{is_to_scalars, is_to_nodes, TurnsAreTyped}
use Rattle.gm_lowering.specs.Phases.{GlobalsApart, NodesInGraph, EdgesShown, Shown, StepIs, GivesApart, given_in}
use Rattle.gm_lowering.specs.TwoSupersteps.{StepsWithin}
use Rattle.gm_lowering.specs.Settles.{HasSpot, HaveRoom, spot_of_fault}
use Rattle.gm_lowering.specs.HomeSteps.{home_block, HasEach}
use Rattle.gm_lowering.specs.HomeLoops.{home_spots}
use Rattle.gm_lowering.specs.TakingSteps.{taking_block, IsTaken}
use Rattle.gm_lowering.specs.SenderTurns.{IsSenderLoop}

-- what the totals of what is sent may fault with comes behind all other faults of a loop
abbrev pub TotalsLast : List Fault → Store → List Contribution → Type 0
TotalsLast faults r given =
    (f x : Fault) → IsIn f (faults ++ total_faults r (filter is_to_scalars given)) → IsIn x (total_faults r (filter is_to_nodes given)) → lower f x ≡ f

-- two supersteps end as a parallel loop does: the first has no fault, and the second ends so; or the first has the loop's fault
abbrev pub TwoStepsAre : Layout → Env → List Spot → List VType → ℕ → NumberedGraph → List Value → Result Store Fault → Stepped → Stepped → Type 0
TwoStepsAre c v spots registers fields g globals result first second =
    ((first.fault ≡ None) × StepIs c v spots registers fields g globals result second)
    ⊎ ((f : Fault) × (result ≡ Err f) × (first.fault ≡ Some (fault_of v f)) × HasSpot (spot_of_fault f) spots)

-- the two supersteps of a loop whose eaches send are the loop, where body and store have types whose nodes are those of the graph
abbrev pub SendingLoopsAreTwoSupersteps : Type 0
SendingLoopsAreTwoSupersteps =
    (c : Layout) (p : Program) (fields base q q2 kind : ℕ) (loop : Loop) (mask_key : Key) (mask : Expr) (key : Key) (place : Place) (h : Head) (test : Expr) (body : Stmt)
    (globals : List Value) (s : Nodes) (r : Store) (table : TypeTable) (around : List ℕ) (result : Option VType)
    → let inner = Foreach key place h test body in
    let all = home_spots c loop.outer h.iterator mask_key mask key test body in
    let seg = segment base all in
    let first = superstep p loop.graph q globals s in
    let its = map (iteration loop mask_key mask inner r) (nodes loop.graph) in
    HasEach c loop mask h
    → IsSenderLoop c p.registers fields loop h.iterator test body
    → TurnsAreTyped c table around result loop h.iterator body r
    → table.limit ≤ node_count loop.graph
    → GlobalsApart c (length globals)
    → HaveRoom base all (length p.places)
    → block_at p q ≡ home_block c seg loop.outer kind mask_key mask h key test body
    → Shown c p.registers fields loop.graph globals s r
    → EdgesShown c loop.graph r
    → NodesInGraph c loop.graph r
    → StepsWithin loop.graph h.domain
    → GivesApart (given_in loop mask_key mask inner r)
    → block_at p q2 ≡ taking_block c seg kind (aways c.declarations loop.outer body)
    → ((a : Away) → IsIn a (aways c.declarations loop.outer body) → IsTaken c all a)
    → TotalsLast (somes (map (λ it. it.fault) its)) r (given_in loop mask_key mask inner r)
    → TwoStepsAre c (own_env c seg loop.outer) all p.registers fields loop.graph globals (parallel loop mask_key mask inner (nodes loop.graph) r) first (superstep p loop.graph q2 first.globals first.nodes)
