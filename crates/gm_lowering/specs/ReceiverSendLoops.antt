-- Three supersteps are a message loop whose receivers send through node variables.
use Rattle.std.specs.Prelude.{◌≡◌, ◌≤◌, ℕ, suc, Option, None, Result, List, ◌++◌, length, map, filter}
use Rattle.gm_base.specs.declared.places.Place.{Place}
use Rattle.gm_value.specs.declared.values.VType.{VType}
use Rattle.gm_value.specs.declared.values.Value.{Value}
use Rattle.gm_value.specs.Bag.{IsIn}
use Rattle.gm_model.specs.Graphs.{NumberedGraph, node_count}
use Rattle.gm_ast.specs.declared.tree.Head.{Head}
use Rattle.gm_ast.specs.declared.tree.Key.{Key}
use Rattle.gm_ast.specs.Program.{Expr, Stmt, Foreach}
use Rattle.gm_semantics.specs.declared.faults.Fault.{Fault}
use Rattle.gm_semantics.specs.Contributions.{Contribution, settled_store, total_faults}
use Rattle.gm_semantics.specs.Faults.{lower, somes}
use Rattle.gm_semantics.specs.Iterations.{Loop}
use Rattle.gm_semantics.specs.Levels.{nodes}
use Rattle.gm_semantics.specs.Loops.{iteration, parallel}
use Rattle.gm_semantics.specs.Stores.{Store}
use Rattle.gm_typed_stores.specs.Tells.{TypeTable}
use Rattle.gm_image.specs.Program.{Program}
use Rattle.gm_machine.specs.Machine.{Nodes, Stepped, block_at, superstep}
use Rattle.gm_lowering.specs.Layouts.{Layout}
use Rattle.gm_lowering.specs.Places.{Spot, segment, spots_in}
use Rattle.gm_lowering.specs.Terms.{Env}
use Rattle.gm_lowering.specs.Plans.{Load, Away, aways}
use Rattle.gm_lowering.specs.Blocks.{receiver_env}
use Rattle.gm_lowering.specs.Sends.{send_block}
use Rattle.gm_lowering.specs.Receiving.{receive_block, inner_spots}
use Rattle.gm_lowering.specs.Phases.{GlobalsApart, NodesInGraph, EdgesShown, Shown, GivesApart, given_in}
use Rattle.gm_lowering.specs.Settles.{HaveRoom}
use Rattle.gm_lowering.specs.TwoSupersteps.{StepsWithin, HasSender}
use Rattle.gm_lowering.specs.TakingSteps.{taking_block, IsTaken}
use Rattle.gm_lowering.specs.SenderLoops.{TwoStepsAre}
use Rattle.gm_lowering.specs.MessageLoops.{TurnsAreTyped}
use Rattle.gm_lowering.specs.ReceiverSends.{is_sent, is_received, IsSendingMessageLoop}
use Rattle.gm_lowering.specs.SentBehind.{SentBehind}

-- what the totals of what is sent may fault with, onto what the rest left, comes behind all other faults of a loop
abbrev pub SentLast : List (ℕ × ℕ) → List Fault → Store → List Contribution → Type 0
SentLast out faults r given =
    let kept = filter (is_received out) given in
    (f x : Fault) → IsIn f (faults ++ total_faults r kept) → IsIn x (total_faults (settled_store r kept) (filter (is_sent out) given)) → lower f x ≡ f

-- three supersteps end as a parallel loop does: the first one has no fault and leaves the globals, and the other two end so
abbrev pub ThreeStepsAre : Layout → Env → List Spot → List VType → ℕ → NumberedGraph → List Value → Result Store Fault → Stepped → Stepped → Stepped → Type 0
ThreeStepsAre c v spots registers fields g globals result first second third =
    (first.fault ≡ None) × (first.globals ≡ globals) × TwoStepsAre c v spots registers fields g globals result second third

-- the three supersteps of a message loop whose receivers send are the loop, where the totals of what is sent come behind all its other faults
abbrev pub SendingMessageLoopsAreThreeSupersteps : Type 0
SendingMessageLoopsAreThreeSupersteps =
    (c : Layout) (p : Program) (fields base q q2 q3 kind : ℕ) (all : List Spot) (loop : Loop) (mask_key : Key) (mask : Expr) (key : Key) (place : Place) (h : Head) (test : Expr) (body : Stmt) (loads : List Load) (out : List (ℕ × ℕ))
    (globals : List Value) (s : Nodes) (r : Store) (table : TypeTable) (around : List ℕ) (result : Option VType)
    → let inner = Foreach key place h test body in
    let seg = segment base all in
    let sends = aways c.declarations h.iterator body in
    let first = superstep p loop.graph q globals s in
    let second = superstep p loop.graph q2 first.globals first.nodes in
    let third = superstep p loop.graph q3 second.globals second.nodes in
    HasSender c loop mask_key mask h loads
    → IsSendingMessageLoop c p.registers fields loop h.iterator loads out test body
    → TurnsAreTyped c table around result loop h.iterator body r
    → table.limit ≤ node_count loop.graph
    → GlobalsApart c (length globals)
    → all ≡ spots_in mask mask_key ++ inner_spots c loop.outer h.iterator key test body
    → HaveRoom base all (length p.places)
    → block_at p q ≡ send_block c seg loop.outer mask_key mask h.domain kind loads
    → block_at p q2 ≡ receive_block c seg loop.outer h.iterator loads kind key test body
    → block_at p q3 ≡ taking_block c seg (suc kind) sends
    → ((a : Away) → IsIn a sends → IsTaken c all a)
    → Shown c p.registers fields loop.graph globals s r
    → EdgesShown c loop.graph r
    → NodesInGraph c loop.graph r
    → StepsWithin loop.graph h.domain
    → GivesApart (given_in loop mask_key mask inner r)
    → SentBehind out (given_in loop mask_key mask inner r)
    → SentLast out (somes (map (λ it. it.fault) (map (iteration loop mask_key mask inner r) (nodes loop.graph)))) r (given_in loop mask_key mask inner r)
    → ThreeStepsAre c (receiver_env c seg loop.outer h.iterator loads) all p.registers fields loop.graph globals (parallel loop mask_key mask inner (nodes loop.graph) r) first second third
