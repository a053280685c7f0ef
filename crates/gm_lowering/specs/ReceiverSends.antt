-- Message loops whose receivers send through node variables: what a handler does, and the step of its vertex, is what the turns do, up to what is sent.
use Rattle.std.specs.Prelude.{◌≡◌, ◌≤◌, ℕ, suc, nat_eq, Bool, true, false, not, ◌&&◌, if◌then◌else◌, Option, Some, List, [], ◌∷◌, ◌++◌, length, map, filter}
use Rattle.std.specs.List.{list_all, list_any}
use Rattle.gm_value.specs.declared.values.VType.{VType}
use Rattle.gm_value.specs.declared.values.Value.{Value}
use Rattle.gm_value.specs.declared.values.Value.TheVariants.{At}
use Rattle.gm_value.specs.Bag.{IsIn}
use Rattle.gm_model.specs.Graphs.{NumberedGraph, Step, node_count}
use Rattle.gm_ast.specs.declared.tree.Key.{Key}
use Rattle.gm_ast.specs.declared.tree.Target.{Target}
use Rattle.gm_ast.specs.declared.tree.Target.TheVariants as T
use Rattle.gm_ast.specs.declared.tree.Declaration.{Declaration}
use Rattle.gm_ast.specs.Program.{Expr, Stmt, Then, Combine, If}
use Rattle.gm_semantics.specs.declared.faults.Fault.{Fault}
use Rattle.gm_semantics.specs.declared.slots.Slot.{Slot}
use Rattle.gm_semantics.specs.declared.slots.Slot.TheVariants as slots
use Rattle.gm_semantics.specs.Contributions.{Contribution, statement_of, value_after, total_faults}
use Rattle.gm_semantics.specs.Faults.{least}
use Rattle.gm_semantics.specs.Iterations.{Loop, AtEdge, Iteration, begun, view_in, turn_at, does}
use Rattle.gm_semantics.specs.Statements.{variable_at}
use Rattle.gm_semantics.specs.Stores.{Store, write}
use Rattle.gm_typed_stores.specs.Tells.{TypeTable}
use Rattle.gm_image.specs.Program.{Program}
use Rattle.gm_machine.specs.Expressions.{value_at}
use Rattle.gm_machine.specs.Machine.{context_at}
use Rattle.gm_machine.specs.Vertex.{Message, VertexContext, VertexState, After, begun as begin, lines_after, vertex_after}
use Rattle.gm_lowering.specs.Layouts.{Layout, is_register, body_positions}
use Rattle.gm_lowering.specs.Places.{Spot, Segment, segment}
use Rattle.gm_lowering.specs.Terms.{Env}
use Rattle.gm_lowering.specs.Plans.{Load, Way, Sends, way_of, Away, aways}
use Rattle.gm_lowering.specs.Blocks.{receiver_env}
use Rattle.gm_lowering.specs.Sites.{is_body, given, IsApart}
use Rattle.gm_lowering.specs.OwnLoops.{HasSpares, AreTyped, NodeShows}
use Rattle.gm_lowering.specs.MessageLoops.{receiver_finds, sets_nothing, handler_lines, is_to_scalars, is_to_nodes, TurnsAreTyped, MessageShows}
use Rattle.gm_lowering.specs.Receiving.{receive_block, turn_of, given_by, faults_by, IsMessageOf, inner_spots}
use Rattle.gm_lowering.specs.Phases.{GivesApart}
use Rattle.gm_lowering.specs.Settles.{HasSpot, fault_or_none, HaveRoom}
use Rattle.gm_lowering.specs.Sent.{sender_gives, AreSent}

-- whether it is one of some properties to which receivers send by some statements, each with the statement
abbrev pub is_part : List (ℕ × ℕ) → (statement property : ℕ) → Bool
is_part out k p = list_any (λ e. nat_eq e.0 p && nat_eq e.1 k) out

-- whether a target of a statement is one
abbrev pub is_sent_target : List (ℕ × ℕ) → ℕ → Target → Bool
is_sent_target out k (T.Scalar x at) = false
is_sent_target out k (T.Property x p at) = is_part out k p

-- whether it is none
abbrev pub is_taken_here : List (ℕ × ℕ) → ℕ → Target → Bool
is_taken_here out k t = not (is_sent_target out k t)

-- whether slots are of such properties, by the first of them
abbrev pub are_sent_slots : List (ℕ × ℕ) → ℕ → List Slot → Bool
are_sent_slots out k [] = false
are_sent_slots out k (slots.Scalar x ∷ xs) = false
are_sent_slots out k (slots.Node p n ∷ xs) = is_part out k p

-- whether a contribution is sent, or taken where it is received
abbrev pub is_sent : List (ℕ × ℕ) → Contribution → Bool
is_sent out x = are_sent_slots out (statement_of x) x.slots

abbrev pub is_received : List (ℕ × ℕ) → Contribution → Bool
is_received out x = not (is_sent out x)

-- whether a way sends
abbrev pub goes_away : Way → Bool
goes_away Sends = true
goes_away w = false

-- whether targets of a statement are all to be sent, or none
abbrev pub are_told : List (ℕ × ℕ) → ℕ → Way → List Target → Bool
are_told out k w ts = if goes_away w then list_all (is_sent_target out k) ts else list_all (is_taken_here out k) ts

-- whether these properties and statements tell what a body sends that is evaluated at node i
abbrev pub tells_sent : List Declaration → ℕ → List (ℕ × ℕ) → Stmt → Bool
tells_sent ds i out (Then a b) = tells_sent ds i out a && tells_sent ds i out b
tells_sent ds i out (Combine k total r ts es) = are_told out total.key.statement (way_of ds i ts) ts
tells_sent ds i out (If k e a b) = tells_sent ds i out a && tells_sent ds i out b
tells_sent ds i out _ = true

-- an inner loop of a loop that is evaluated at the receivers of messages, which send: its iterators are two and no locals; it does what such a receiver may, what it sends is told, and it has spare registers for its tuples
pub record IsSendingMessageLoop (c : Layout) (registers : List VType) (fields : ℕ) (loop : Loop) (i : ℕ) (loads : List Load) (out : List (ℕ × ℕ)) (test : Expr) (body : Stmt) : Type 0 where
  pub apart : IsApart c (length registers) fields
  pub outer : is_register (variable_at c.declarations loop.outer) ≡ false
  pub inner : is_register (variable_at c.declarations i) ≡ false
  pub two : nat_eq i loop.outer ≡ false
  pub types : (x : ℕ) → loop.vtype x ≡ (variable_at c.declarations x).vtype
  pub depths : (x : ℕ) → loop.depth x ≡ (variable_at c.declarations x).depth
  pub found : receiver_finds c loop.outer i loads test ≡ true
  pub fits : is_body c (receiver_finds c loop.outer i loads) sets_nothing (sender_gives c loop.outer i (receiver_finds c loop.outer i loads)) body ≡ true
  pub told : tells_sent c.declarations i out body ≡ true
  pub spares : HasSpares c (length registers) (body_positions c.declarations body)

-- what a vertex has given is what a turn has given: puts to scalars, folds to its own properties, and messages for the rest
pub record ReceiverSent (c : Layout) (v : Env) (kind : ℕ) (as' : List Away) (g : NumberedGraph) (out : List (ℕ × ℕ)) (it : Iteration) (w : VertexState) : Type 0 where
  pub puts : w.puts ≡ map (given c v) (filter is_to_scalars (filter (is_received out) it.with_outermost))
  pub folds : w.folds ≡ map (given c v) (filter is_to_nodes (filter (is_received out) it.with_outermost))
  pub carried : AreSent kind as' g (filter (is_sent out) it.with_outermost) w.messages
  pub inner : it.with_inner ≡ []
  pub deferred : it.deferred ≡ []

-- how the run of a handler ends that stands for a turn
abbrev pub RunSends : Layout → Env → ℕ → List Away → NumberedGraph → List (ℕ × ℕ) → Iteration → After → Type 0
RunSends c v kind as' g out it a = (a.fault ≡ fault_or_none v it.fault) × ReceiverSent c v kind as' g out it a.state

-- the run of the handler of a message is the inner loop's turn at its edge, where body and store have types whose nodes are those of the graph
abbrev pub SendingHandlersAreTurns : Type 0
SendingHandlersAreTurns =
    (c : Layout) (seg : Segment) (registers : List VType) (fields : ℕ) (loop : Loop) (i : ℕ) (loads : List Load) (out : List (ℕ × ℕ)) (kind : ℕ) (key : Key) (test : Expr) (body : Stmt)
    (s : VertexContext) (values : List Value) (k edge : ℕ) (r : Store) (table : TypeTable) (its : List ℕ) (result : Option VType)
    → IsSendingMessageLoop c registers fields loop i loads out test body
    → AreTyped c table its result loop body (begun (write r (slots.Scalar i) (At (Some s.node))))
    → table.limit ≤ node_count loop.graph
    → s.graph ≡ loop.graph
    → MessageShows c loop.graph registers fields s.globals values s.message loop.outer loads (view_in loop (AtEdge edge) (begun r) key) k s.node r
    → let it = turn_at loop (AtEdge edge) key test (does body (AtEdge edge) loop) i s.node r in
    RunSends c (receiver_env c seg loop.outer i loads) kind (aways c.declarations i body) loop.graph out it
    (lines_after s (handler_lines c seg loop.outer i loads kind key test body) 0 (begin registers values))

-- the step of a vertex takes what turns give but for what is sent: its fields hold what is left at its node, it has put what goes to scalars, and its fault is the least of the turns' and of the totals at its node; and it sends the rest
pub record ReceivesAndSends (c : Layout) (v : Env) (kind : ℕ) (as' : List Away) (g : NumberedGraph) (out : List (ℕ × ℕ)) (fields j : ℕ) (r : Store) (contributions : List Contribution) (faults : List Fault) (a : After) : Type 0 where
  pub fault : a.fault ≡ fault_or_none v (least (faults ++ total_faults r (filter is_to_nodes (filter (is_received out) contributions))))
  pub puts : a.state.puts ≡ map (given c v) (filter is_to_scalars (filter (is_received out) contributions))
  pub carried : AreSent kind as' g (filter (is_sent out) contributions) a.state.messages
  pub properties : (p : ℕ) → c.is_kept p ≡ true → value_at a.state.fields (c.field p) ≡ value_after r (filter is_to_nodes (filter (is_received out) contributions)) (slots.Node p j)
  pub field_count : length a.state.fields ≡ fields

abbrev pub SendingReceiversAreTurns : Type 0
SendingReceiversAreTurns =
    (c : Layout) (p : Program) (fields base : ℕ) (all : List Spot) (loop : Loop) (i : ℕ) (loads : List Load) (out : List (ℕ × ℕ)) (kind : ℕ) (key : Key) (test : Expr) (body : Stmt)
    (globals values : List Value) (j : ℕ) (r : Store) (xs : List (ℕ × Step)) (message : ℕ × Step → Message) (table : TypeTable) (its : List ℕ) (result : Option VType)
    → IsSendingMessageLoop c p.registers fields loop i loads out test body
    → TurnsAreTyped c table its result loop i body r
    → table.limit ≤ node_count loop.graph
    → ((f : Spot) → HasSpot f (inner_spots c loop.outer i key test body) → HasSpot f all)
    → HaveRoom base all (length p.places)
    → NodeShows c loop.graph p.registers fields globals values j r
    → ((x : ℕ × Step) → IsIn x xs → IsMessageOf loop loads kind key r j x (message x))
    → let turn = turn_of loop i key test body r in
    GivesApart (filter is_to_nodes (filter (is_received out) (given_by turn xs)))
    → let seg = segment base all in
    ReceivesAndSends c (receiver_env c seg loop.outer i loads) (suc kind) (aways c.declarations i body) loop.graph out fields j r (given_by turn xs) (faults_by turn xs)
    (vertex_after p (receive_block c seg loop.outer i loads kind key test body) (context_at loop.graph globals j) (map message xs) values)
