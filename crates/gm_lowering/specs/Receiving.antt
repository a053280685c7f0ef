-- A message loop's second superstep, at one vertex: its handlers are the turns that reach its node.
use Rattle.std.specs.Prelude.{◌≡◌, ◌<◌, ℕ, suc, true, false, Some, List, [], ◌∷◌, ◌++◌, length, map, filter, Option}
use Rattle.gm_value.specs.declared.values.Value.{Value}
use Rattle.gm_value.specs.declared.values.Value.TheVariants.{At}
use Rattle.gm_value.specs.Bag.{IsIn}
use Rattle.gm_model.specs.Graphs.{Step, node_count}
use Rattle.gm_ast.specs.declared.tree.Key.{Key}
use Rattle.gm_ast.specs.Program.{Expr, Stmt}
use Rattle.gm_semantics.specs.declared.faults.Fault.{Fault}
use Rattle.gm_semantics.specs.declared.slots.Slot.TheVariants.{Scalar, Node}
use Rattle.gm_semantics.specs.Contributions.{Contribution, value_after, total_faults}
use Rattle.gm_semantics.specs.Faults.{least, somes, joined}
use Rattle.gm_semantics.specs.Iterations.{Loop, AtEdge, Iteration, begun, view_in, turn_at, does}
use Rattle.gm_semantics.specs.Stores.{Store, write}
use Rattle.gm_image.specs.Program.{Program, Block}
use Rattle.gm_machine.specs.Expressions.{value_at}
use Rattle.gm_machine.specs.Machine.{context_at}
use Rattle.gm_machine.specs.Vertex.{Message, After, vertex_after}
use Rattle.gm_lowering.specs.Layouts.{Layout}
use Rattle.gm_lowering.specs.Places.{Spot, Segment, segment, spots_in}
use Rattle.gm_lowering.specs.Terms.{Env}
use Rattle.gm_lowering.specs.Plans.{Load}
use Rattle.gm_lowering.specs.Bodies.{spots_of}
use Rattle.gm_lowering.specs.Blocks.{receiver_env}
use Rattle.gm_lowering.specs.Sites.{given}
use Rattle.gm_lowering.specs.OwnLoops.{NodeShows}
use Rattle.gm_lowering.specs.MessageLoops.{handler_lines, IsMessageLoop, Carries, is_to_scalars, is_to_nodes, TurnsTyped}
use Rattle.gm_lowering.specs.Settles.{HasSpot, fault_or_none, HaveRoom}
use Rattle.gm_lowering.specs.Phases.{GivesApart}
use Rattle.gm_value.specs.declared.values.VType.{VType}
use Rattle.gm_typed_stores.specs.Tells.{TypeTable}

-- the block of the receivers
abbrev pub receive_block : Layout → Segment → ℕ → ℕ → List Load → ℕ → Key → Expr → Stmt → Block
receive_block c seg n i loads kind key test body = record {
  handlers = record { kind = kind; lines = handler_lines c seg n i loads (suc kind) key test body } ∷ [];
  body = [];
}

-- the turn of an inner loop from a node along a step
abbrev pub turn_of : Loop → ℕ → Key → Expr → Stmt → Store → ℕ × Step → Iteration
turn_of loop i key test body r x =
    turn_at loop (AtEdge x.1.edge) key test (does body (AtEdge x.1.edge) loop) i x.1.node (write r (Scalar loop.outer) (At (Some x.0)))

-- what turns give in the end, and their faults
abbrev pub given_by : (ℕ × Step → Iteration) → List (ℕ × Step) → List Contribution
given_by turn xs = joined (map (λ x. (turn x).with_outermost) xs)

abbrev pub faults_by : (ℕ × Step → Iteration) → List (ℕ × Step) → List Fault
faults_by turn xs = somes (map (λ x. (turn x).fault) xs)

-- a message is that of a turn which reaches a node
pub record IsMessageOf (loop : Loop) (loads : List Load) (kind : ℕ) (key : Key) (r : Store) (j : ℕ) (x : ℕ × Step) (m : Message) : Type 0 where
  pub arrives : x.1.node ≡ j
  pub of_kind : m.kind ≡ kind
  pub from_inside : x.0 < node_count loop.graph
  pub carries : Carries loads (view_in loop (AtEdge x.1.edge) (begun (write r (Scalar loop.outer) (At (Some x.0)))) key) x.0 m.values

-- the step of a vertex takes what turns give: its fields hold what is left at its node, it has put what goes to scalars, and its fault is the least of the turns' and of the totals at its node
pub record Receives (c : Layout) (v : Env) (fields j : ℕ) (r : Store) (contributions : List Contribution) (faults : List Fault) (a : After) : Type 0 where
  pub fault : a.fault ≡ fault_or_none v (least (faults ++ total_faults r (filter is_to_nodes contributions)))
  pub puts : a.state.puts ≡ map (given c v) (filter is_to_scalars contributions)
  pub messages : a.state.messages ≡ []
  pub properties : (p : ℕ) → c.is_kept p ≡ true → value_at a.state.fields (c.field p) ≡ value_after r (filter is_to_nodes contributions) (Node p j)
  pub field_count : length a.state.fields ≡ fields

-- the spots of an inner loop that is evaluated at its receivers
abbrev pub inner_spots : Layout → ℕ → ℕ → Key → Expr → Stmt → List Spot
inner_spots c n i key test body = spots_in test key ++ spots_of c i (n ∷ i ∷ []) false body

abbrev pub ReceivingStepsAreTurns : Type 0
ReceivingStepsAreTurns =
    (c : Layout) (p : Program) (fields base : ℕ) (all : List Spot) (loop : Loop) (i : ℕ) (loads : List Load) (kind : ℕ) (key : Key) (test : Expr) (body : Stmt)
    (globals values : List Value) (j : ℕ) (r : Store) (xs : List (ℕ × Step)) (message : ℕ × Step → Message) (table : TypeTable) (its : List ℕ) (result : Option VType)
    → IsMessageLoop c p.registers fields loop i loads test body
    → TurnsTyped c table its result loop i body r
    → ((f : Spot) → HasSpot f (inner_spots c loop.outer i key test body) → HasSpot f all)
    → HaveRoom base all (length p.places)
    → NodeShows c loop.graph p.registers fields globals values j r
    → ((x : ℕ × Step) → IsIn x xs → IsMessageOf loop loads kind key r j x (message x))
    → let turn = turn_of loop i key test body r in
    GivesApart (filter is_to_nodes (given_by turn xs))
    → let seg = segment base all in
    Receives c (receiver_env c seg loop.outer i loads) fields j r (given_by turn xs) (faults_by turn xs)
    (vertex_after p (receive_block c seg loop.outer i loads kind key test body) (context_at loop.graph globals j) (map message xs) values)
