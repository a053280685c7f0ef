-- Two supersteps are an own loop that sends through node variables.
use Rattle.std.specs.Prelude.{◌≡◌, ◌<◌, ◌≤◌, ℕ, Option, Some, List, length, map}
use Rattle.gm_value.specs.declared.values.VType.{VType}
use Rattle.gm_value.specs.declared.values.Value.{Value}
use Rattle.gm_value.specs.declared.values.Value.TheVariants.{At}
use Rattle.gm_value.specs.Bag.{IsIn}
use Rattle.gm_model.specs.Graphs.{node_count}
use Rattle.gm_ast.specs.declared.tree.Key.{Key}
use Rattle.gm_ast.specs.Program.{Expr, Stmt}
use Rattle.gm_semantics.specs.declared.slots.Slot.TheVariants.{Scalar}
use Rattle.gm_semantics.specs.Faults.{somes}
use Rattle.gm_semantics.specs.Iterations.{Loop, begun}
use Rattle.gm_semantics.specs.Levels.{nodes}
use Rattle.gm_semantics.specs.Loops.{iteration, own_left, parallel}
use Rattle.gm_semantics.specs.Stores.{Store, write}
use Rattle.gm_typed_stores.specs.Tells.{TypeTable}
use Rattle.gm_image.specs.Program.{Program}
use Rattle.gm_machine.specs.Machine.{Nodes, block_at, superstep}
use Rattle.gm_lowering.specs.Layouts.{Layout}
use Rattle.gm_lowering.specs.Places.{segment}
use Rattle.gm_lowering.specs.Terms.{own_env}
use Rattle.gm_lowering.specs.Plans.{Away, aways}
use Rattle.gm_lowering.specs.OwnLoops.{own_block, AreTyped}
use Rattle.gm_lowering.specs.Phases.{GlobalsApart, NodesInGraph, Shown, GivesApart, given_in, own_spots}
use Rattle.gm_lowering.specs.Settles.{HaveRoom}
use Rattle.gm_lowering.specs.OwnSends.{IsSendingOwnLoop}
use Rattle.gm_lowering.specs.SenderLoops.{TotalsLast, TwoStepsAre}
use Rattle.gm_lowering.specs.TakingSteps.{taking_block, IsTaken}

-- the two supersteps of an own loop that sends through node variables are the loop, where the totals of what is sent come behind all its other faults; what nodes set of their own is set before totals are taken
abbrev pub SendingOwnLoopsAreTwoSupersteps : Type 0
SendingOwnLoopsAreTwoSupersteps =
    (c : Layout) (p : Program) (fields base q q2 kind : ℕ) (loop : Loop) (key : Key) (test : Expr) (body : Stmt) (globals : List Value) (s : Nodes) (r : Store) (table : TypeTable) (around : List ℕ) (result : Option VType)
    → let all = own_spots c loop.outer key test body in
    let seg = segment base all in
    let first = superstep p loop.graph q globals s in
    let its = map (iteration loop key test body r) (nodes loop.graph) in
    IsSendingOwnLoop c p.registers fields loop test body
    → ((k : ℕ) → k < node_count loop.graph → AreTyped c table around result loop body (begun (write r (Scalar loop.outer) (At (Some k)))))
    → table.limit ≤ node_count loop.graph
    → GlobalsApart c (length globals)
    → HaveRoom base all (length p.places)
    → block_at p q ≡ own_block c seg loop.outer kind key test body
    → Shown c p.registers fields loop.graph globals s r
    → NodesInGraph c loop.graph r
    → GivesApart (given_in loop key test body r)
    → block_at p q2 ≡ taking_block c seg kind (aways c.declarations loop.outer body)
    → ((a : Away) → IsIn a (aways c.declarations loop.outer body) → IsTaken c all a)
    → TotalsLast (somes (map (λ it. it.fault) its)) (own_left r (nodes loop.graph) its) (given_in loop key test body r)
    → TwoStepsAre c (own_env c seg loop.outer) all p.registers fields loop.graph globals (parallel loop key test body (nodes loop.graph) r) first (superstep p loop.graph q2 first.globals first.nodes)
