-- The first superstep of a loop whose eaches send, along its edges or through node variables: it puts what goes to scalars, and sends the rest.
use Rattle.std.specs.Prelude.{◌≡◌, ◌≤◌, ℕ, Option, List, [], ◌++◌, length, map, filter}
use Rattle.gm_base.specs.declared.places.Place.{Place}
use Rattle.gm_value.specs.declared.values.VType.{VType}
use Rattle.gm_value.specs.declared.values.Value.{Value}
use Rattle.gm_value.specs.Bag.{IsIn}
use Rattle.gm_model.specs.Graphs.{NumberedGraph, node_count}
use Rattle.gm_ast.specs.declared.tree.Head.{Head}
use Rattle.gm_ast.specs.declared.tree.Key.{Key}
use Rattle.gm_ast.specs.Program.{Expr, Stmt, Foreach}
use Rattle.gm_semantics.specs.declared.faults.Fault.{Fault}
use Rattle.gm_semantics.specs.declared.slots.Slot.TheVariants.{Scalar}
use Rattle.gm_semantics.specs.Contributions.{Contribution, value_after, total_faults}
use Rattle.gm_semantics.specs.Faults.{least, somes}
use Rattle.gm_semantics.specs.Iterations.{Loop}
use Rattle.gm_semantics.specs.Levels.{nodes}
use Rattle.gm_semantics.specs.Loops.{iteration}
use Rattle.gm_semantics.specs.Stores.{Store}
use Rattle.gm_typed_stores.specs.Tells.{TypeTable}
use Rattle.gm_image.specs.Program.{Program}
use Rattle.gm_machine.specs.Machine.{Nodes, Stepped, block_at, superstep}
use Rattle.gm_lowering.specs.Layouts.{Layout}
use Rattle.gm_lowering.specs.Places.{Spot, segment}
use Rattle.gm_lowering.specs.Terms.{Env, own_env}
use Rattle.gm_lowering.specs.Plans.{Away, aways}
use Rattle.gm_lowering.specs.MessageLoops.{is_to_scalars, is_to_nodes, TurnsAreTyped}
use Rattle.gm_lowering.specs.Phases.{GlobalsApart, NodesInGraph, EdgesShown, Shown, OthersKept, GivesApart, given_in}
use Rattle.gm_lowering.specs.TwoSupersteps.{StepsWithin}
use Rattle.gm_lowering.specs.Settles.{HasSpot, HaveRoom, spot_of_fault, fault_or_none}
use Rattle.gm_lowering.specs.HomeSteps.{home_block, HasEach}
use Rattle.gm_lowering.specs.HomeLoops.{home_spots}
use Rattle.gm_lowering.specs.SenderTurns.{IsSenderLoop}
use Rattle.gm_lowering.specs.Sent.{AreSent}

-- the store whose scalars have taken some contributions
abbrev pub with_scalars : Store → List Contribution → Store
with_scalars r cs = record r { scalar = λ x. value_after r cs (Scalar x) }

-- a superstep that puts what goes to scalars and sends the rest: its fault is the least of some faults and of the totals of what is put; globals and nodes show what these leave; and messages carry the rest
pub record Sends (c : Layout) (v : Env) (kind : ℕ) (as' : List Away) (spots : List Spot) (registers : List VType) (fields : ℕ) (g : NumberedGraph) (globals : List Value) (r : Store) (faults : List Fault) (given : List Contribution) (t : Stepped) : Type 0 where
  pub fault : t.fault ≡ fault_or_none v (least (faults ++ total_faults r (filter is_to_scalars given)))
  pub spotted : (f : Fault) → IsIn f (faults ++ total_faults r (filter is_to_scalars given)) → HasSpot (spot_of_fault f) spots
  pub shown : Shown c registers fields g t.globals (record (t.nodes) { sent = [] }) (with_scalars r (filter is_to_scalars given))
  pub sent : AreSent kind as' g (filter is_to_nodes given) t.nodes.sent
  pub others : OthersKept c globals t.globals
  pub count : length t.globals ≡ length globals

-- the first superstep of a loop whose eaches send, where body and store have types whose nodes are those of the graph
abbrev pub SendingSuperstepsSend : Type 0
SendingSuperstepsSend =
    (c : Layout) (p : Program) (fields base q kind : ℕ) (loop : Loop) (mask_key : Key) (mask : Expr) (key : Key) (place : Place) (h : Head) (test : Expr) (body : Stmt)
    (globals : List Value) (s : Nodes) (r : Store) (table : TypeTable) (its : List ℕ) (result : Option VType)
    → let inner = Foreach key place h test body in
    let all = home_spots c loop.outer h.iterator mask_key mask key test body in
    let seg = segment base all in
    HasEach c loop mask h
    → IsSenderLoop c p.registers fields loop h.iterator test body
    → TurnsAreTyped c table its result loop h.iterator body r
    → table.limit ≤ node_count loop.graph
    → GlobalsApart c (length globals)
    → HaveRoom base all (length p.places)
    → block_at p q ≡ home_block c seg loop.outer kind mask_key mask h key test body
    → Shown c p.registers fields loop.graph globals s r
    → EdgesShown c loop.graph r
    → NodesInGraph c loop.graph r
    → StepsWithin loop.graph h.domain
    → GivesApart (given_in loop mask_key mask inner r)
    → Sends c (own_env c seg loop.outer) kind (aways c.declarations loop.outer body) all p.registers fields loop.graph globals r
    (somes (map (λ it. it.fault) (map (iteration loop mask_key mask inner r) (nodes loop.graph)))) (given_in loop mask_key mask inner r) (superstep p loop.graph q globals s)
