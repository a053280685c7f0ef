-- What is said over a graph text, by cases in the order of work: the graph is judged, then the arguments are, and only
-- then something runs. The format of the graph text and what runs are parameters: what runs asks for a graph with some
-- columns and for some scalar inputs, and may say some texts and statuses over a graph with values for these.
use Rattle.std.specs.Prelude.{◌≡◌, ℕ, List, Ok, Err}
use Rattle.gm_base.specs.declared.statuses.Status.{Status}
use Rattle.gm_base.specs.declared.statuses.Status.TheVariants.{BadInput}
use Rattle.gm_value.specs.declared.values.Value.{Value}
use Rattle.gm_model.specs.Graphs.{NumberedGraph}
use Rattle.gm_graph.specs.declared.builds.Shape.{Shape}
use Rattle.gm_loader.specs.declared.faults.GraphFault.{GraphFault}
use Rattle.gm_loader.specs.GraphText.{StandsFor, lines_of}
use Rattle.gm_mtx.specs.declared.faults.MtxFault.{MtxFault}
use Rattle.gm_mtx.specs.MatrixMarket.{matrix_of}
use Rattle.gm_mtx.specs.MatrixMarket as matrix
use Rattle.gm_mtx.specs.FaultLines.{mtx_text}
use Rattle.gm_words.specs.declared.arguments.ArgFault.{ArgFault}
use Rattle.gm_words.specs.declared.arguments.Input.{Input}
use Rattle.gm_words.specs.declared.jobs.Format.{Format}
use Rattle.gm_words.specs.declared.jobs.Format.TheVariants.{Edges, Mtx}
use Rattle.gm_words.specs.Arguments.{values_bound}
use Rattle.gm_input.specs.Texts.{Says, graph_text, graph_limits, argument_text}

-- a format of graph texts: which graph with columns of a shape a text stands for, and which line says what is wrong with
-- a text that stands for none
pub record GraphFormat : Type 1 where
  pub stands : Shape → List ℕ → NumberedGraph → Type 0
  pub faulty : Shape → List ℕ → List ℕ → Type 0

-- an edge list has a fault, and this line says it
pub record IsEdgeFault (shape : Shape) (text line : List ℕ) : Type 0 where
  pub fault : GraphFault
  pub has : lines_of shape graph_limits text ≡ Err fault
  pub says : line ≡ graph_text fault

-- the edge list, with lines of nodes and of edges
abbrev pub edge_list : GraphFormat
edge_list = record { stands = λ shape text g. StandsFor shape graph_limits text g; faulty = λ shape text line. IsEdgeFault shape text line }

-- a Matrix Market text has a fault, and this line says it
pub record IsMatrixFault (shape : Shape) (text line : List ℕ) : Type 0 where
  pub fault : MtxFault
  pub has : matrix_of shape graph_limits text ≡ Err fault
  pub says : line ≡ mtx_text fault

-- the Matrix Market text, with a header, a size line and a line for each entry
abbrev pub matrix_market : GraphFormat
matrix_market = record { stands = λ shape text g. matrix.StandsFor shape graph_limits text g; faulty = λ shape text line. IsMatrixFault shape text line }

-- the format that an option names
abbrev pub format_of : Format → GraphFormat
format_of Edges = edge_list
format_of Mtx = matrix_market

-- a text stands for a graph with columns of a shape, in a format
abbrev pub IsGraphOf : GraphFormat → Shape → List ℕ → NumberedGraph → Type 0
IsGraphOf f shape text g = f.stands shape text g

-- something is wrong with a graph text, and this is said
pub record SaysBadGraph (f : GraphFormat) (shape : Shape) (graph text : List ℕ) (status : Status) : Type 0 where
  pub line : List ℕ
  pub faulty : f.faulty shape graph line
  pub says : Says text status line BadInput

-- an argument is faulty, and this is said
pub record SaysBadArgument (inputs : List Input) (words : List (List ℕ)) (g : NumberedGraph) (text : List ℕ) (status : Status) : Type 0 where
  pub fault : ArgFault
  pub faulty : values_bound inputs words g.numbers ≡ Err fault
  pub says : Says text status (argument_text fault) BadInput

-- what may be said over a graph with values for the inputs
abbrev pub Saying : Type 1
Saying = NumberedGraph → List Value → List ℕ → Status → Type 0

-- the answer over a graph, with the words for the arguments: an argument is faulty, or it ran with the values that the
-- words give
pub data IsGraphAnswer (inputs : List Input) (words : List (List ℕ)) (Ran : Saying) (g : NumberedGraph) (text : List ℕ) (status : Status) : Type 0 where
  bad_argument : SaysBadArgument inputs words g text status → IsGraphAnswer inputs words Ran g text status
  ran : (args : List Value) → values_bound inputs words g.numbers ≡ Ok args → Ran g args text status → IsGraphAnswer inputs words Ran g text status

-- the answer over a graph text: the text has a fault, or it stands for a graph over which there is an answer
pub data IsTextAnswer (f : GraphFormat) (shape : Shape) (inputs : List Input) (words : List (List ℕ)) (Ran : Saying) (graph text : List ℕ) (status : Status) : Type 0 where
  bad_graph : SaysBadGraph f shape graph text status → IsTextAnswer f shape inputs words Ran graph text status
  good_graph : (g : NumberedGraph) → f.stands shape graph g → IsGraphAnswer inputs words Ran g text status → IsTextAnswer f shape inputs words Ran graph text status
