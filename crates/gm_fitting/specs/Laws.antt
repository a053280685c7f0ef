-- What words and graphs give to the program of a text fits it.
use Rattle.std.specs.Prelude.{◌≡◌, ◌≤◌, ℕ, List, map, filter, take, length, Ok}
use Rattle.std.specs.Str.Lossy.{utf8_lossy}
use Rattle.gm_value.specs.declared.values.VType.{VType}
use Rattle.gm_value.specs.declared.values.Value.{Value}
use Rattle.gm_model.specs.Graphs.{NumberedGraph, IsGraph, node_count}
use Rattle.gm_graph.specs.declared.builds.Shape.{Shape}
use Rattle.gm_loader.specs.declared.limits.Limits.{Limits}
use Rattle.gm_loader.specs.GraphText as edges
use Rattle.gm_mtx.specs.MatrixMarket as matrix
use Rattle.gm_ast.specs.declared.tree.Sort.{Sort}
use Rattle.gm_ast.specs.declared.tree.Sort.TheVariants.{Scalar, NodeProperty, EdgeProperty}
use Rattle.gm_ast.specs.Names.{is}
use Rattle.gm_ast.specs.Program.{Program}
use Rattle.gm_canon.specs.Verdict.{StandsFor}
use Rattle.gm_typed_stores.specs.Laws.{HasInputs, FitsBelow, input_types}
use Rattle.gm_typed_stores.specs.Values.{AreValues, AreColumns}
use Rattle.gm_words.specs.declared.arguments.Input.{Input}
use Rattle.gm_words.specs.Arguments.{values_bound}
use Rattle.gm_words.specs.Words.{Text}
use Rattle.gm_lowering_master.specs.Whole.{HasEdgeColumns}

-- the scalar inputs of a program, with their names as texts
abbrev pub inputs_asked : Program → List Input
inputs_asked p = map (λ d. record { name = utf8_lossy d.name; vtype = d.variable.vtype }) (filter (λ d. is Scalar d.variable) (take p.inputs p.declarations))

-- the values that words give to the inputs of the program of a text have their types, and nodes among them are nodes of the graph
abbrev pub BoundValuesHaveTypes : Type 0
BoundValuesHaveTypes = (text : List ℕ) (p : Program) (words : List Text) (numbers : List ℕ) (args : List Value) → StandsFor text p → length numbers ≤ 2147483647 →
    values_bound (inputs_asked p) words numbers ≡ Ok args → AreValues (length numbers) (input_types p Scalar) args

-- ---- graphs

-- the columns of a graph hold values of the types of a shape, whatever limit nodes have: no column holds nodes
pub record HasTypedColumns (limit : ℕ) (shape : Shape) (g : NumberedGraph) : Type 0 where
  pub nodes : AreColumns limit shape.nodes g.node_columns
  pub edges : AreColumns limit shape.edges g.edge_columns

abbrev pub EdgeListsHaveColumns : Type 0
EdgeListsHaveColumns = (limit : ℕ) (shape : Shape) (limits : Limits) (text : List ℕ) (g : NumberedGraph) → edges.StandsFor shape limits text g → HasTypedColumns limit shape g

abbrev pub MatricesHaveColumns : Type 0
MatricesHaveColumns = (limit : ℕ) (shape : Shape) (limits : Limits) (text : List ℕ) (g : NumberedGraph) → matrix.StandsFor shape limits text g → HasTypedColumns limit shape g

-- ---- runs

-- the types of the inputs of a sort, in order of declaration
abbrev pub types_asked : Sort → Program → List VType
types_asked sort p = map (λ d. d.variable.vtype) (filter (λ d. is sort d.variable) (take p.inputs p.declarations))

-- a graph with a column of values for each property among the inputs of the program of a text, and values that words give to its scalar inputs
pub record IsRun (text : List ℕ) (p : Program) (words : List Text) (g : NumberedGraph) (args : List Value) : Type 0 where
  pub stands : StandsFor text p
  pub graph : IsGraph g
  pub nodes : AreColumns (node_count g) (types_asked NodeProperty p) g.node_columns
  pub edges : AreColumns (node_count g) (types_asked EdgeProperty p) g.edge_columns
  pub bound : values_bound (inputs_asked p) words g.numbers ≡ Ok args

-- what a run has is what the program asks for, so it fits the program, and the graph has as many columns of edges as the program declares
pub record RunFits (p : Program) (g : NumberedGraph) (args : List Value) : Type 0 where
  pub has : HasInputs (node_count g) p g args
  pub fits : FitsBelow (node_count g) p g args
  pub columns : HasEdgeColumns p g

abbrev pub RunsFit : Type 0
RunsFit = (text : List ℕ) (p : Program) (words : List Text) (g : NumberedGraph) (args : List Value) → IsRun text p words g args → RunFits p g args
