-- The master list, supersteps and whole runs.
use Rattle.std.specs.Prelude.{ℕ, zero, suc, ◌+◌, ◌-◌, nat_eq, Bool, true, false, if◌then◌else◌, Option, Some, None, Result, Ok, Err, List, [], ◌∷◌, length, map, filter, slice_get, slice_set, slice_index_or}
use Rattle.std.specs.Option.{option_map}
use Rattle.std.specs.List.{enumerate_from, flat_map}
use Rattle.gm_base.specs.declared.places.Place.{Place}
use Rattle.gm_value.specs.declared.values.Value.{Value}
use Rattle.gm_value.specs.Numbers.{zero_of}
use Rattle.gm_value.specs.Operations.{is_true}
use Rattle.gm_model.specs.declared.outcomes.Outcome.{Outcome}
use Rattle.gm_model.specs.declared.outcomes.Outcome.TheVariants as outcomes
use Rattle.gm_model.specs.declared.outcomes.RunEnd.{RunEnd}
use Rattle.gm_model.specs.Graphs.{NumberedGraph, Step}
use Rattle.gm_image.specs.Term.{Term}
use Rattle.gm_image.specs.Program as programs
use Rattle.gm_image.specs.Program.{Program, Block, Item, Holder, Scalar, Node, Edge, Command, SetGlobal, Jump, Test, Turn, Back, Finish}
use Rattle.gm_machine.specs.declared.faults.Fault.{Fault}
use Rattle.gm_machine.specs.Faults.{lesser, least_fault}
use Rattle.gm_machine.specs.Expressions.{View, value, value_at}
use Rattle.gm_machine.specs.Taking.{settled}
use Rattle.gm_machine.specs.Vertex.{Message, VertexContext, After, vertex_after}

-- what the master list changes: the globals, and the turns that were counted
pub record Control : Type 0 where
  pub globals : List Value
  pub turns : ℕ

-- what supersteps change: the fields of each node, the messages that wait, and the counts of supersteps and messages
pub record Nodes : Type 0 where
  pub fields : List (List Value)
  pub sent : List Message
  pub supersteps : ℕ
  pub messages : ℕ

-- the messages to a node, by sender and then in the order of sending
abbrev pub inbox : List Message → ℕ → List Message
inbox sent node = filter (λ m. nat_eq m.to node) sent

-- an edge where there is none
abbrev pub nowhere : Step
nowhere = record { node = 0; edge = 0 }

-- what a vertex sees outside of handlers and eachs
abbrev pub context_at : NumberedGraph → List Value → ℕ → VertexContext
context_at g globals node = record { graph = g; globals = globals; node = node; message = []; near = nowhere }

-- a block that does nothing
abbrev pub no_block : Block
no_block = record { handlers = []; body = [] }

abbrev pub block_at : Program → ℕ → Block
block_at p q = slice_index_or p.blocks q no_block

-- the step of a node with its fields
abbrev pub step_of : Program → NumberedGraph → Block → List Value → List Message → (ℕ × List Value) → After
step_of p g b globals sent at = vertex_after p b (context_at g globals at.0) (inbox sent at.0) at.1

-- the steps of all nodes on the same globals
abbrev pub all_steps : Program → NumberedGraph → Block → List Value → List Message → List (List Value) → List After
all_steps p g b globals sent fields = map (step_of p g b globals sent) (enumerate_from 0 fields)

-- what a superstep leaves, and the least fault in it
pub record Stepped : Type 0 where
  pub nodes : Nodes
  pub globals : List Value
  pub fault : Option Fault

-- a superstep whose vertices did this: what they put is taken onto the globals
abbrev pub stepped : ℕ → List Value → Nodes → List After → Stepped
stepped places globals s all =
    let sent = flat_map (λ a. a.state.messages) all in
    let put = settled places (flat_map (λ a. a.state.puts) all) globals in
    record {
      nodes = record {
        fields = map (λ a. a.state.fields) all;
        sent = sent;
        supersteps = s.supersteps + 1;
        messages = s.messages + length sent;
      };
      globals = put.values;
      fault = lesser (least_fault (map (λ a. a.fault) all)) put.fault;
    }

abbrev pub superstep : Program → NumberedGraph → ℕ → List Value → Nodes → Stepped
superstep p g q globals s = stepped (length p.places) globals s (all_steps p g (block_at p q) globals s.sent s.fields)

-- how the master list ends
pub data Stop : Type 0 where
  Ended : (c : Control) → Stop
  Faulted : (f : Fault) (c : Control) → Stop
  Cut : (c : Control) → Stop

-- what an expression of the master list is evaluated in
abbrev pub master_view : NumberedGraph → List Value → View
master_view g globals = record {
  graph = g;
  globals = globals;
  node = 0;
  fields = [];
  registers = [];
  message = [];
  near = nowhere;
}

-- where a master line leads: on, with the next lines skipped, to a superstep, to a line where a turn begins, or to the end of the run
pub data Lead : Type 0 where
  On : (skip : ℕ) (c : Control) → Lead
  ToStep : (block : ℕ) (c : Control) → Lead
  ToTurn : (line : ℕ) (c : Control) → Lead
  ToStop : (stop : Stop) → Lead

-- goes on with the value of an expression, or stops with its fault
abbrev pub lead_by : Result Value Fault → Control → (Value → Lead) → Lead
lead_by (Ok v) c go = go v
lead_by (Err f) c go = ToStop (Faulted f c)

abbrev pub with_value : NumberedGraph → Control → Term → (Value → Lead) → Lead
with_value g c a go = lead_by (value (master_view g c.globals) a) c go

-- the head of a loop: a turn at the line below it, or the exit
abbrev pub at_head : NumberedGraph → ℕ → ℕ → ℕ → Term → Control → Lead
at_head g next below exit a c = with_value g c a (λ v. if is_true v then ToTurn below c else On (exit - next) c)

-- back to a line, which is the head of a loop
abbrev pub back_to : NumberedGraph → ℕ → ℕ → Option Command → Control → Lead
back_to g next h (Some (Turn x a)) c = at_head g next (h + 1) x a c
back_to g next h (Some m) c = ToStop (Ended c)
back_to g next h None c = ToStop (Ended c)

-- a global becomes a value
abbrev pub set_after : NumberedGraph → ℕ → Term → Control → Lead
set_after g slot a c = with_value g c a (λ v. On 0 (record c { globals = slice_set c.globals slot v }))

-- a master line, given the number of the line below it
abbrev pub command_after : List Command → NumberedGraph → ℕ → Command → Control → Lead
command_after list g next (SetGlobal t a) c = set_after g t a c
command_after list g next (programs.Step q) c = ToStep q c
command_after list g next (Jump j) c = On (j - next) c
command_after list g next (Test j a) c =
    with_value g c a (λ v. if is_true v then On 0 c else On (j - next) c)
command_after list g next (Turn x a) c = at_head g next next x a c
command_after list g next (Back h) c = back_to g next h (slice_get list h) c
command_after list g next Finish c = ToStop (Ended c)

-- The master list up to where a turn begins, for any kind of answer: stop answers where the run ends, step at a superstep, given the block, the next line and what the rest of the list answers, and turn at a line where a turn begins.
module _ {R : Type 0} (p : Program) (g : NumberedGraph) (stop : Stop → R) (step : ℕ → ℕ → Control → (Control → R) → R) (turn : ℕ → Control → R) where
  -- what is answered where the line above line i leads, given what the rest of the list answers
  abbrev pub lead_answer : ℕ → (ℕ → Control → R) → Lead → R
  lead_answer i rest (On k c) = rest k c
  lead_answer i rest (ToStep q c) = step q i c (λ c'. rest 0 c')
  lead_answer i rest (ToTurn j c) = turn j c
  lead_answer i rest (ToStop s) = stop s

  -- the master list from line i on, the first k lines skipped
  abbrev pub forward : ℕ → List Command → ℕ → Control → R
  forward i [] k c = stop (Ended c)
  forward i (m ∷ ms) (suc k) c = forward (i + 1) ms k c
  forward i (m ∷ ms) zero c =
      lead_answer (i + 1) (λ k c'. forward (i + 1) ms k c') (command_after p.master g (i + 1) m c)

  -- the master list from a line on
  abbrev pub from_line : ℕ → Control → R
  from_line j c = forward 0 p.master j c

-- The master list's whole run, with a bound on its turns; step is also given how many turns are left.
module _ {R : Type 0} (p : Program) (g : NumberedGraph) (stop : Stop → R) (step : ℕ → ℕ → ℕ → Control → (Control → R) → R) where
  -- a turn that begins at a line, with so many turns left
  abbrev pub turn_at : ℕ → ℕ → Control → R
  turn_at zero j c = stop (Cut c)
  turn_at (suc n) j c = from_line p g stop (step n) (λ j' c'. turn_at n j' c') j (record c { turns = c.turns + 1 })

  -- the run from a line on, with so many turns left
  abbrev pub run_from : ℕ → ℕ → Control → R
  run_from n j c = from_line p g stop (step n) (λ j' c'. turn_at n j' c') j c

-- how a part of the master list's run ends: at its end, at a superstep and the line below it, or where a turn begins
pub data MasterSegment : Type 0 where
  AtEnd : (stop : Stop) → MasterSegment
  AtStep : (block line : ℕ) (c : Control) → MasterSegment
  AtTurn : (line : ℕ) (c : Control) → MasterSegment

-- the master list from a line on, as far as the next superstep or turn
abbrev pub segment : Program → NumberedGraph → ℕ → Control → MasterSegment
segment p g j c = from_line p g AtEnd (λ q line c' go. AtStep q line c') AtTurn j c

-- how the master list's run pauses: at its end, or at a superstep, with so many turns left
pub data Pause : Type 0 where
  Stops : (stop : Stop) → Pause
  Steps : (left block line : ℕ) (c : Control) → Pause

-- the run from a line on, as far as the next superstep, with so many turns left
abbrev pub pause : Program → NumberedGraph → ℕ → ℕ → Control → Pause
pause p g n j c = run_from p g Stops (λ left q line c' go. Steps left q line c') n j c

-- whether an input or an output is held by globals, and whether by fields
abbrev pub is_scalar : Holder → Bool
is_scalar Scalar = true
is_scalar Node = false
is_scalar Edge = false

abbrev pub is_node : Holder → Bool
is_node Scalar = false
is_node Node = true
is_node Edge = false

abbrev pub scalars : List Item → List Item
scalars items = filter (λ i. is_scalar i.holder) items

abbrev pub properties : List Item → List Item
properties items = filter (λ i. is_node i.holder) items

-- a column of one slot's values by node
abbrev pub column_of : List (List Value) → ℕ → List Value
column_of fields slot = map (λ values. value_at values slot) fields

-- how a run is done: what the outputs' slots hold, and the turns
abbrev pub done : Program → Control → List (List Value) → Outcome
done p c fields =
    outcomes.Done
    (map (λ i. value_at c.globals i.slot) (scalars p.outputs))
    (option_map (λ r. value_at c.globals r.1) p.result)
    (map (λ i. column_of fields i.slot) (properties p.outputs))
    c.turns

-- the place of an index
abbrev pub place_at : Program → ℕ → Place
place_at p place = slice_index_or p.places place (record { line = 0; col = 0 })

abbrev pub outcome : Program → Stop → List (List Value) → Outcome
outcome p (Ended c) fields = done p c fields
outcome p (Faulted f c) fields = outcomes.Fault f.kind (place_at p f.place)
outcome p (Cut c) fields = outcomes.Cut c.turns

-- how the whole run ends
abbrev pub ends : Program → Stop → Nodes → RunEnd
ends p stop s = record { outcome = outcome p stop s.fields; supersteps = s.supersteps; messages = s.messages }

-- writes values into the slots of inputs
abbrev pub with_inputs : List Item → List Value → List Value → List Value
with_inputs [] vs held = held
with_inputs (i ∷ items) [] held = held
with_inputs (i ∷ items) (v ∷ vs) held = with_inputs items vs (slice_set held i.slot v)

-- the globals and the turns before the first step
abbrev pub start_control : Program → List Value → Control
start_control p args = record {
  globals = with_inputs (scalars p.inputs) args (map zero_of p.globals);
  turns = 0;
}

-- the values of a node in columns
abbrev pub row_at : List (List Value) → ℕ → List Value
row_at columns node = map (λ values. value_at values node) columns

-- the fields of a node before the first step
abbrev pub start_fields : Program → NumberedGraph → (ℕ × ℕ) → List Value
start_fields p g at = with_inputs (properties p.inputs) (row_at g.node_columns at.0) (map zero_of p.fields)

-- the nodes before the first step
abbrev pub start_nodes : Program → NumberedGraph → Nodes
start_nodes p g = record {
  fields = map (start_fields p g) (enumerate_from 0 g.numbers);
  sent = [];
  supersteps = 0;
  messages = 0;
}

-- goes on after a superstep that left no fault
abbrev pub step_ends : {R : Type 0} → Option Fault → (Fault → R) → R → R
step_ends None stop go = go
step_ends (Some f) stop go = stop f

-- a superstep of the run, which a fault ends
abbrev pub run_step : Program → NumberedGraph → ℕ → ℕ → ℕ → Control → (Control → Nodes → RunEnd) → Nodes → RunEnd
run_step p g left q line c go s =
    let t = superstep p g q c.globals s in
    let c' : Control = record c { globals = t.globals } in
    step_ends t.fault (λ f. ends p (Faulted f c') t.nodes) (go c' t.nodes)

-- the whole run with a bound on its turns
abbrev pub machine : Program → NumberedGraph → List Value → ℕ → RunEnd
machine p g args n = run_from p g (ends p) (run_step p g) n 0 (start_control p args) (start_nodes p g)
