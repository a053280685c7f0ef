-- Two supersteps are a message loop.
use Rattle.std.specs.Prelude.{◌≡◌, ◌<◌, ◌⊎◌, ℕ, nat_lt, Bool, true, ◌&&◌, None, List, [], ◌++◌, length, Option}
use Rattle.std.specs.List.{list_all}
use Rattle.gm_value.specs.declared.values.Value.{Value}
use Rattle.gm_value.specs.Bag.{IsIn}
use Rattle.gm_model.specs.Graphs.{NumberedGraph, Step, node_count, edge_count}
use Rattle.gm_ast.specs.declared.tree.Domain.{Domain}
use Rattle.gm_ast.specs.declared.tree.Domain.TheVariants.{OutNbrs, InNbrs}
use Rattle.gm_ast.specs.declared.tree.Head.{Head}
use Rattle.gm_ast.specs.declared.tree.Key.{Key}
use Rattle.gm_ast.specs.declared.tree.Sort.TheVariants as Sorts
use Rattle.gm_ast.specs.Names.{is}
use Rattle.gm_ast.specs.Program.{Expr, Stmt, Foreach}
use Rattle.gm_base.specs.declared.places.Place.{Place}
use Rattle.gm_semantics.specs.Iterations.{Loop}
use Rattle.gm_semantics.specs.Levels.{nodes}
use Rattle.gm_semantics.specs.Loops.{parallel}
use Rattle.gm_semantics.specs.Statements.{variable_at}
use Rattle.gm_semantics.specs.Stores.{Store}
use Rattle.gm_image.specs.Program.{Program}
use Rattle.gm_machine.specs.Machine.{Nodes, block_at, superstep}
use Rattle.gm_machine.specs.Vertex.{steps}
use Rattle.gm_lowering.specs.Layouts.{Layout}
use Rattle.gm_lowering.specs.Places.{Spot, segment, spots_in}
use Rattle.gm_lowering.specs.Plans.{Load, SenderItself, SenderProperty, SenderDegree, EdgeValue}
use Rattle.gm_lowering.specs.Blocks.{direction_of, receiver_env}
use Rattle.gm_lowering.specs.OwnLoops.{own_finds}
use Rattle.gm_lowering.specs.MessageLoops.{IsMessageLoop, TurnsTyped}
use Rattle.gm_lowering.specs.Sends.{send_block}
use Rattle.gm_lowering.specs.Receiving.{receive_block, inner_spots}
use Rattle.gm_lowering.specs.Phases.{GlobalsApart, NodesInGraph, EdgesShown, Shown, StepIs, GivesApart, given_in}
use Rattle.gm_lowering.specs.Settles.{HaveRoom}
use Rattle.gm_value.specs.declared.values.VType.{VType}
use Rattle.gm_typed_stores.specs.Tells.{TypeTable}

-- whether a sender can read a load: its property has a field, and the edge's is one of edges
abbrev pub is_readable : Layout → Load → Bool
is_readable c SenderItself = true
is_readable c (SenderProperty p) = c.is_kept p
is_readable c (SenderDegree d) = true
is_readable c (EdgeValue p) = nat_lt p (length c.declarations) && is Sorts.EdgeProperty (variable_at c.declarations p)

-- a step leads to a node of the graph, along one of its edges
abbrev pub IsInside : NumberedGraph → Step → Type 0
IsInside g e = (e.node < node_count g) × (e.edge < edge_count g)

-- all steps that a loop may take do
abbrev pub StepsWithin : NumberedGraph → Domain → Type 0
StepsWithin g d = (k : ℕ) (e : Step) → IsIn e (steps (direction_of d) g k) → IsInside g e

-- the outer part of a message loop: the inner loop is over neighbours of the outer iterator, the mask is found at the sender and has nothing that can fault, and the sender can read the loads
pub record HasSender (c : Layout) (loop : Loop) (mask_key : Key) (mask : Expr) (h : Head) (loads : List Load) : Type 0 where
  pub neighbours : (h.domain ≡ OutNbrs) ⊎ (h.domain ≡ InNbrs)
  pub owner : h.owner ≡ loop.outer
  pub found : own_finds c loop.outer mask ≡ true
  pub quiet : spots_in mask mask_key ≡ []
  pub readable : list_all (is_readable c) loads ≡ true

-- a superstep with the send block and one with the receivers' block are the loop, where what it picks has types: the first has no fault and leaves the globals
abbrev pub MessageLoopsAreTwoSupersteps : Type 0
MessageLoopsAreTwoSupersteps =
    (c : Layout) (p : Program) (fields base q q2 kind : ℕ) (all : List Spot) (loop : Loop) (mask_key : Key) (mask : Expr) (key : Key) (place : Place) (h : Head) (test : Expr) (body : Stmt) (loads : List Load)
    (globals : List Value) (s : Nodes) (r : Store) (table : TypeTable) (its : List ℕ) (result : Option VType)
    → let inner = Foreach key place h test body in
    let seg = segment base all in
    let first = superstep p loop.graph q globals s in
    HasSender c loop mask_key mask h loads
    → IsMessageLoop c p.registers fields loop h.iterator loads test body
    → TurnsTyped c table its result loop h.iterator body r
    → GlobalsApart c (length globals)
    → all ≡ spots_in mask mask_key ++ inner_spots c loop.outer h.iterator key test body
    → HaveRoom base all (length p.places)
    → block_at p q ≡ send_block c seg loop.outer mask_key mask h.domain kind loads
    → block_at p q2 ≡ receive_block c seg loop.outer h.iterator loads kind key test body
    → Shown c p.registers fields loop.graph globals s r
    → EdgesShown c loop.graph r
    → NodesInGraph c loop.graph r
    → StepsWithin loop.graph h.domain
    → GivesApart (given_in loop mask_key mask inner r)
    → (first.fault ≡ None) × (first.globals ≡ globals)
    × StepIs c (receiver_env c seg loop.outer h.iterator loads) all p.registers fields loop.graph globals
    (parallel loop mask_key mask inner (nodes loop.graph) r) (superstep p loop.graph q2 first.globals first.nodes)
