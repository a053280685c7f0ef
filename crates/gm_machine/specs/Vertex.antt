-- One step of one vertex.
use Rattle.std.specs.Prelude.{ℕ, zero, suc, nat_eq, if◌then◌else◌, Option, Some, None, Result, Ok, Err, List, [], ◌∷◌, ◌++◌, length, map, find, take, slice_set, Bool}
use Rattle.std.specs.List.{flat_map, list_all}
use Rattle.gm_value.specs.declared.values.VType.{VType}
use Rattle.gm_value.specs.declared.values.Value.{Value}
use Rattle.gm_value.specs.declared.values.Value.TheVariants.{I32, I64, Flag, At}
use Rattle.gm_value.specs.declared.reductions.Reduce.{Reduce}
use Rattle.gm_value.specs.Numbers.{zero_of}
use Rattle.gm_value.specs.Operations.{is_true}
use Rattle.gm_model.specs.Graphs.{NumberedGraph, Step, out_steps, in_steps}
use Rattle.gm_image.specs.Program.{Program, Block, Handler, Target, Line, SetField, Fold, SetRegister, Put, Send, Skip, Each, Direction, Out, In}
use Rattle.gm_image.specs.Folds.{sets_no_field}
use Rattle.gm_image.specs.Parts.{terms_of, slots_of}
use Rattle.gm_machine.specs.declared.faults.Fault.{Fault}
use Rattle.gm_machine.specs.Faults.{then_go, lesser, least_fault}
use Rattle.gm_machine.specs.Expressions.{View, value, values}
use Rattle.gm_machine.specs.Taking.{Contribution, contributed, settled}

-- a message of a kind to a node
pub record Message : Type 0 where
  pub to : ℕ
  pub kind : ℕ
  pub values : List Value

-- what a vertex sees and does not change: the graph, the globals, itself, in a handler the values of the message, and in an each the neighbour and the edge
pub record VertexContext : Type 0 where
  pub graph : NumberedGraph
  pub globals : List Value
  pub node : ℕ
  pub message : List Value
  pub near : Step

-- what a vertex changes: its fields and registers, what it has sent and put, and the folds that are not yet taken
pub record VertexState : Type 0 where
  pub fields : List Value
  pub registers : List Value
  pub messages : List Message
  pub puts : List Contribution
  pub folds : List Contribution

-- what an expression at a vertex with these fields and registers is evaluated in
abbrev pub view_with : VertexContext → List Value → List Value → View
view_with s fields registers = record {
  graph = s.graph;
  globals = s.globals;
  node = s.node;
  fields = fields;
  registers = registers;
  message = s.message;
  near = s.near;
}

abbrev pub view : VertexContext → VertexState → View
view s w = view_with s w.fields w.registers

-- the state after lines, the fault that ended them, and how many of the next lines are skipped
pub record After : Type 0 where
  pub state : VertexState
  pub fault : Option Fault
  pub skip : ℕ

-- a contribution to the slots of some targets, or the first fault of their expressions
abbrev pub gives : View → Reduce → ℕ → List Target → Result (List Contribution) Fault
gives w reduce place targets = then_go (values w (terms_of targets)) (λ vs. Ok (contributed place reduce (slots_of targets) vs))

-- a message to a node, none where that is NIL
abbrev pub messages_to : Value → ℕ → List Value → List Message
messages_to (At (Some to)) kind values = record { to = to; kind = kind; values = values } ∷ []
messages_to (At None) kind values = []
messages_to (I32 z) kind values = []
messages_to (I64 z) kind values = []
messages_to (Flag b) kind values = []

-- goes on with what an expression gave, or ends with its fault
abbrev pub line_ends : {A : Type 0} → VertexState → Result A Fault → (A → After) → After
line_ends w (Err f) go = record { state = w; fault = Some f; skip = 0 }
line_ends w (Ok x) go = go x

-- a state after which the next line follows
abbrev pub leaves : VertexState → After
leaves w = record { state = w; fault = None; skip = 0 }

-- a line that is no each. An each leaves out its lines.
abbrev pub line_after : VertexContext → Line → VertexState → After
line_after s (SetField f a) w =
    line_ends w (value (view s w) a) (λ v. leaves (record w { fields = slice_set w.fields f v }))
line_after s (Fold r place ts) w =
    line_ends w (gives (view s w) r place ts) (λ given. leaves (record w { folds = w.folds ++ given }))
line_after s (SetRegister r a) w =
    line_ends w (value (view s w) a) (λ v. leaves (record w { registers = slice_set w.registers r v }))
line_after s (Put r place ts) w =
    line_ends w (gives (view s w) r place ts) (λ given. leaves (record w { puts = w.puts ++ given }))
line_after s (Send kind to ts) w =
    line_ends w (value (view s w) to) (λ v. line_ends w (values (view s w) ts) (λ vs.
    leaves (record w { messages = w.messages ++ messages_to v kind vs })))
line_after s (Skip n a) w =
    line_ends w (value (view s w) a) (λ v. record { state = w; fault = None; skip = if is_true v then 0 else n })
line_after s (Each d n) w = record { state = w; fault = None; skip = n }

-- goes on after a line that left no fault
abbrev pub go_by : Option Fault → After → (ℕ → VertexState → After) → After
go_by None a go = go a.skip a.state
go_by (Some f) a go = a

abbrev pub goes_on : After → (ℕ → VertexState → After) → After
goes_on a go = go_by a.fault a go

-- lines without an each, the first k of them skipped, to their end or their first fault
abbrev pub lines_after : VertexContext → List Line → ℕ → VertexState → After
lines_after s [] k w = leaves w
lines_after s (l ∷ ls) (suc k) w = lines_after s ls k w
lines_after s (l ∷ ls) zero w = goes_on (line_after s l w) (λ k w'. lines_after s ls k w')

-- the edges of a node that an each goes over, in order
abbrev pub steps : Direction → NumberedGraph → ℕ → List Step
steps Out g n = out_steps g n
steps In g n = in_steps g n

-- the turns of an each, one for each edge, after turns that left a fault. Each goes on where the one before it ended, whether that faulted or not.
abbrev pub turns_after : VertexContext → List Line → List Step → VertexState → Option Fault → After
turns_after s ls [] w f = record { state = w; fault = f; skip = 0 }
turns_after s ls (e ∷ es) w f =
    let one = lines_after (record s { near = e }) ls 0 w in
    turns_after s ls es one.state (lesser f one.fault)

-- a state after which k lines are skipped, unless there is a fault
abbrev pub ended : VertexState → Option Fault → ℕ → After
ended w None k = record { state = w; fault = None; skip = k }
ended w (Some f) k = record { state = w; fault = Some f; skip = 0 }

-- takes the folds onto the fields
abbrev pub folded : ℕ → After → After
folded places a =
    let after = settled places a.state.folds a.state.fields in
    ended (record (a.state) { folds = []; fields = after.values }) (lesser a.fault after.fault) a.skip

-- an each of n lines over a direction's edges, which then leaves out these lines
abbrev pub each_after : VertexContext → Direction → ℕ → List Line → VertexState → After
each_after s d n ls w = record (turns_after s (take n ls) (steps d s.graph s.node) w None) { skip = n }

-- a line of a body, before the lines that follow it. Folds are taken after a fold, and after all turns of an each.
abbrev pub body_line_after : ℕ → VertexContext → Line → List Line → VertexState → After
body_line_after places s (Each d n) ls w = folded places (each_after s d n ls w)
body_line_after places s (Fold r place ts) ls w = folded places (line_after s (Fold r place ts) w)
body_line_after places s (SetField f a) ls w = line_after s (SetField f a) w
body_line_after places s (SetRegister r a) ls w = line_after s (SetRegister r a) w
body_line_after places s (Put r place ts) ls w = line_after s (Put r place ts) w
body_line_after places s (Send kind to ts) ls w = line_after s (Send kind to ts) w
body_line_after places s (Skip n a) ls w = line_after s (Skip n a) w

-- a body, the first k lines skipped, to its end or its first fault
abbrev pub body_after : ℕ → VertexContext → List Line → ℕ → VertexState → After
body_after places s [] k w = leaves w
body_after places s (l ∷ ls) (suc k) w = body_after places s ls k w
body_after places s (l ∷ ls) zero w = goes_on (body_line_after places s l ls w) (λ k w'. body_after places s ls k w')

abbrev pub lines_of : Option Handler → List Line
lines_of None = []
lines_of (Some h) = h.lines

-- the lines for a kind of messages, none where there is no such handler
abbrev pub handler_lines : List Handler → ℕ → List Line
handler_lines handlers kind = lines_of (find (λ h. nat_eq h.kind kind) handlers)

-- the run of the handler of a message, to its end or its first fault
abbrev pub handler_run : VertexContext → List Handler → VertexState → Message → After
handler_run s handlers w m = lines_after (record s { message = m.values }) (handler_lines handlers m.kind) 0 w

-- what all runs sent, put and folded, and the least of their faults
abbrev pub gathered : VertexState → List After → After
gathered w runs = record {
  state = record w {
    messages = flat_map (λ a. a.state.messages) runs;
    puts = flat_map (λ a. a.state.puts) runs;
    folds = flat_map (λ a. a.state.folds) runs;
  };
  fault = least_fault (map (λ a. a.fault) runs);
  skip = 0;
}

-- a vertex with these fields that has done nothing yet
abbrev pub begun : List VType → List Value → VertexState
begun registers fields = record { fields = fields; registers = map zero_of registers; messages = []; puts = []; folds = [] }

-- the handlers of an inbox's messages, each from the same state, and then their folds taken
abbrev pub handled : ℕ → List VType → VertexContext → List Handler → List Message → List Value → After
handled places registers s handlers inbox fields =
    folded places (gathered (begun registers fields) (map (handler_run s handlers (begun registers fields)) inbox))

-- the step of a vertex with these fields: the handlers, and then the body unless something faulted
abbrev pub vertex_after : Program → Block → VertexContext → List Message → List Value → After
vertex_after p b s inbox fields =
    goes_on
    (handled (length p.places) p.registers s b.handlers inbox fields)
    (λ k w. body_after (length p.places) s b.body 0 w)

-- whether no line sets a field
abbrev pub never_sets : List Line → Bool
never_sets ls = list_all sets_no_field ls
