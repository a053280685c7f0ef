-- Which graph a text stands for, or which of its lines is the first with a fault.
use Rattle.std.specs.Prelude.{◌≡◌, ℕ, ◌+◌, nat_lt, Bool, false, ◌==◌, if◌then◌else◌, List, [], ◌∷◌, ◌++◌, length, map, drop, Option, Some, None, Result, Ok, Err}
use Rattle.std.specs.List.{list_any, flat_map}
use Rattle.std.specs.Str.Lines.{lines}
use Rattle.gm_value.specs.declared.values.VType.{VType}
use Rattle.gm_value.specs.declared.values.Value.{Value}
use Rattle.gm_value.specs.Numbers.{zero_of}
use Rattle.gm_graph.specs.declared.builds.Shape.{Shape}
use Rattle.gm_graph.specs.declared.builds.RawGraph.{RawGraph}
use Rattle.gm_columns.specs.Columns.{TypedRow}
use Rattle.gm_model.specs.Graphs.{NumberedGraph}
use Rattle.gm_graph.specs.Builds.{IsBuiltOf, distinct}
use Rattle.gm_loader.specs.declared.faults.LineFault.{LineFault}
use Rattle.gm_loader.specs.declared.faults.LineFault.TheVariants.{BadLine, MissingColumn, OutOfRange, NodeTwice, TooManyNodes, TooManyEdges}
use Rattle.gm_loader.specs.declared.faults.GraphFault.{GraphFault}
use Rattle.gm_loader.specs.declared.faults.GraphFault.TheVariants as fault
use Rattle.gm_loader.specs.declared.limits.Limits.{Limits}
use Rattle.gm_loader.specs.Lines.{Line, Skipped, NodeLine, EdgeLine, line_of}

-- a row of the edge lines, and one of the node lines
pub record EdgeRow : Type 0 where
  pub from : ℕ
  pub to : ℕ
  pub values : List Value

pub record NodeRow : Type 0 where
  pub number : ℕ
  pub values : List Value

-- what one line gives
abbrev pub edges_in : Line → List EdgeRow
edges_in (EdgeLine a b vs) = record { from = a; to = b; values = vs } ∷ []
edges_in _ = []

abbrev pub nodes_in : Line → List NodeRow
nodes_in (NodeLine n vs) = record { number = n; values = vs } ∷ []
nodes_in _ = []

abbrev pub numbers_in : Line → List ℕ
numbers_in Skipped = []
numbers_in (NodeLine n vs) = n ∷ []
numbers_in (EdgeLine a b vs) = a ∷ b ∷ []

-- what some lines give, in their order
abbrev pub edge_rows : List Line → List EdgeRow
edge_rows ls = flat_map edges_in ls

abbrev pub node_rows : List Line → List NodeRow
node_rows ls = flat_map nodes_in ls

-- the numbers on node and edge lines, each as often as it is written
abbrev pub numbers_on : List Line → List ℕ
numbers_on ls = flat_map numbers_in ls

-- how many nodes, and how many edges, some lines have
abbrev pub node_count : List Line → ℕ
node_count ls = length (distinct (numbers_on ls))

abbrev pub edge_count : List Line → ℕ
edge_count ls = length (edge_rows ls)

-- whether a node has a line of its own
abbrev pub has_line : ℕ → List Line → Bool
has_line n ls = list_any (λ m. m == n) (map (λ r. r.number) (node_rows ls))

-- whether a line is the second node line of one node
abbrev pub repeats : List Line → Line → Bool
repeats before (NodeLine n vs) = has_line n before
repeats before _ = false

-- the fault that a well-formed line has after others, if it has one
abbrev pub late_fault : Limits → List Line → Line → Option LineFault
late_fault limits before line =
    if repeats before line then Some NodeTwice else
    (if nat_lt limits.nodes (node_count (before ++ line ∷ [])) then Some TooManyNodes else
    (if nat_lt limits.edges (edge_count (before ++ line ∷ [])) then Some TooManyEdges else None))

-- a well-formed line, if it has no such fault
abbrev pub unless : Line → Option LineFault → Result Line LineFault
unless line None = Ok line
unless line (Some e) = Err e

-- a line after others: what is wrong with its fields comes before what is wrong with it after the others
abbrev pub judged : Limits → List Line → Result Line LineFault → Result Line LineFault
judged limits before (Err e) = Err e
judged limits before (Ok line) = unless line (late_fault limits before line)

-- the fault of the line of a number
abbrev pub at_line : ℕ → LineFault → GraphFault
at_line k BadLine = fault.BadLine k
at_line k MissingColumn = fault.MissingColumn k
at_line k OutOfRange = fault.OutOfRange k
at_line k NodeTwice = fault.NodeTwice k
at_line k TooManyNodes = fault.TooManyNodes k
at_line k TooManyEdges = fault.TooManyEdges k

-- what goes on after a line that has no fault; the fault of the line of a number where it has one
abbrev pub on_line : {A : Type 0} → ℕ → Result Line LineFault → (Line → Result A GraphFault) → Result A GraphFault
on_line k (Ok line) go = go line
on_line k (Err e) go = Err (at_line k e)

-- some lines and more behind them, or the fault of the first of these that has one. Lines count from 1
abbrev pub lines_after : Limits → List Line → List (Result Line LineFault) → Result (List Line) GraphFault
lines_after limits before [] = Ok before
lines_after limits before (line ∷ more) =
    on_line (length before + 1) (judged limits before line) (λ sound. lines_after limits (before ++ sound ∷ []) more)

-- the lines of a text, or its fault: too many bytes, or else the fault of the first line that has one
abbrev pub lines_of : Shape → Limits → List ℕ → Result (List Line) GraphFault
lines_of shape limits text =
    if nat_lt limits.bytes (length text) then Err fault.TooLong else lines_after limits [] (map (line_of shape) (lines text))

-- columns with these rows of values
abbrev pub first_value : VType → List Value → Value
first_value t [] = zero_of t
first_value t (v ∷ vs) = v

abbrev pub columns_of : List VType → List (List Value) → List TypedRow
columns_of [] rows = []
columns_of (t ∷ ts) rows = record { vtype = t; values = map (first_value t) rows } ∷ columns_of ts (map (drop 1) rows)

-- of what the graph of some lines is made: the edges in the order of their lines, and the nodes with lines of
-- their own. All numbers on these lines are nodes
abbrev pub raw_of : Shape → List Line → RawGraph
raw_of shape ls = record {
  shape = shape;
  from = map (λ e. e.from) (edge_rows ls);
  to = map (λ e. e.to) (edge_rows ls);
  edge_columns = columns_of shape.edges (map (λ e. e.values) (edge_rows ls));
  extra = map (λ r. r.number) (node_rows ls);
  node_columns = columns_of shape.nodes (map (λ r. r.values) (node_rows ls));
}

-- a text stands for a graph: none of its lines has a fault, and the graph is made of them
pub record StandsFor (shape : Shape) (limits : Limits) (text : List ℕ) (g : NumberedGraph) : Type 0 where
  pub sound_lines : List Line
  pub no_fault : lines_of shape limits text ≡ Ok sound_lines
  pub built : IsBuiltOf (raw_of shape sound_lines) g

-- a graph has so many node columns and so many edge columns
pub record HasColumns (nodes edges : ℕ) (g : NumberedGraph) : Type 0 where
  pub of_nodes : length g.node_columns ≡ nodes
  pub of_edges : length g.edge_columns ≡ edges
