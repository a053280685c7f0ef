-- What a vertex sees and what it changes, as the code holds them.
use Rattle.std.specs.Prelude.{ℕ, Bool, true, false, Option, Some, None, Result, Ok, Err, ◌≡◌, List, ◌++◌, length, map}
use Rattle.gm_model.specs.Graphs.{NumberedGraph}
use Rattle.gm_graph.specs.Walks.{edge_at}
use Rattle.gm_image.specs.Program.{Block, Direction, Out, In}
use Rattle.gm_image.specs.Views.{handler, line}
use Rattle.gm_machine.specs.declared.bodies.BlockCode as T
use Rattle.gm_machine.specs.declared.faults.Fault.{Fault}
use Rattle.gm_graph.specs.Serving.{AreRowsOf}
use Rattle.gm_machine.specs.Taking.{Contribution}
use Rattle.gm_machine.specs.declared.expressions.VertexContext as S
use Rattle.gm_machine.specs.declared.lines.VertexState as W
use Rattle.gm_machine.specs.declared.lines.LineEnd.{LineEnd}
use Rattle.gm_machine.specs.declared.lines.LineEnd.TheVariants.{Next, Faulted}
use Rattle.gm_machine.specs.Vertex.{Message, VertexContext, VertexState, After}

-- a graph has so many edge columns
abbrev pub HasColumns : NumberedGraph → ℕ → Type 0
HasColumns g columns = columns ≡ length g.edge_columns

-- a graph has the edge columns of a context, whose rows are the graph's
abbrev pub IsSupplied : S.VertexContext → Type 0
IsSupplied s = HasColumns s.graph.now s.columns × AreRowsOf s.graph.now s.in_rows.now

-- what an expression sees, and what a vertex changes
abbrev pub context_of : S.VertexContext → VertexContext
context_of s = record {
  graph = s.graph.now;
  globals = s.globals.now;
  node = s.node;
  message = s.message.now;
  near = record { node = s.neighbour; edge = edge_at s.graph.now s.row };
}

abbrev pub state_of : W.VertexState → VertexState
state_of w = record {
  fields = w.fields.items;
  registers = w.registers.items;
  messages = w.messages;
  puts = w.puts;
  folds = w.folds;
}

-- the block that a vertex does
abbrev pub code_of : T.BlockCode → Block
code_of t = record { handlers = map handler t.handlers.now; body = map line t.body.now }

-- the state after a line, and after lines
abbrev pub after_line : VertexState → LineEnd → After
after_line w (Next k) = record { state = w; fault = None; skip = k }
after_line w (Faulted f) = record { state = w; fault = Some f; skip = 0 }

abbrev pub after_lines : VertexState → Option Fault → After
after_lines w f = record { state = w; fault = f; skip = 0 }

-- the direction of an each over out-edges, and of one over in-edges
abbrev pub direction : Bool → Direction
direction true = Out
direction false = In

-- what was found, unless there was a fault
abbrev pub answered : {A : Type 0} → Option Fault → A → Result A Fault
answered None found = Ok found
answered (Some f) found = Err f

-- a state that comes behind messages, puts and folds
abbrev pub behind : List Message → List Contribution → List Contribution → VertexState → VertexState
behind messages puts folds w = record w {
  messages = messages ++ w.messages;
  puts = puts ++ w.puts;
  folds = folds ++ w.folds;
}

abbrev pub after_behind : List Message → List Contribution → List Contribution → After → After
after_behind messages puts folds a = record a { state = behind messages puts folds a.state }
