-- What a program asks of its graph and of its arguments, as its image asks it: over the graph of a text, with values that words give, the program of a text has it.
use Rattle.std.proofs.Common.{◌≡◌, ◌≤◌, ◌+◌, ℕ, List, length, ap, arith}
use Rattle.std.specs.Prelude.{Ok}
use Rattle.gm_value.specs.declared.values.Value.{Value}
use Rattle.gm_model.specs.Graphs.{IsGraph, NumberedGraph, node_count}
use Rattle.gm_ast.specs.declared.tree.Sort.TheVariants as Sorts
use Rattle.gm_ast.specs.Program.{Program}
use Rattle.gm_canon.specs.Verdict.{StandsFor}
use Rattle.gm_typed_stores.specs.Laws.{HasInputs, input_types}
use Rattle.gm_words.specs.declared.jobs.Format.{Format}
use Rattle.gm_words.specs.declared.jobs.Format.TheVariants.{Edges, Mtx}
use Rattle.gm_words.specs.Arguments.{values_bound}
use Rattle.gm_input.specs.Answers.{IsGraphOf, format_of}
use Rattle.gm_input.specs.Texts.{graph_limits}
use Rattle.gm_interface.proofs.Source.{typed-table}
use Rattle.gm_compilable.proofs.Texts.{accepted-of-text}
use Rattle.gm_fitting.specs.Laws.{HasTypedColumns}
use Rattle.gm_fitting.proofs.EdgeLists.{edge-lists}
use Rattle.gm_fitting.proofs.Matrices.{matrices}
use Rattle.gm_fitting.proofs.Runs.{runs-fit, same-types}
use Rattle.gm_source_runs.specs.Programs.{input_declarations, inputs_of, shape_of, types_of}

-- the columns of the graph of a text hold values of their types
columns_typed : (f : Format) (p : Program) (text : List ℕ) (g : NumberedGraph) → IsGraphOf (format_of f) (shape_of p) text g → HasTypedColumns (node_count g) (shape_of p) g
columns_typed Edges p text g it = edge-lists (node_count g) (shape_of p) graph_limits text g it
columns_typed Mtx p text g it = matrices (node_count g) (shape_of p) graph_limits text g it

-- as many columns of edges are asked for in both ways
pub asked_columns : (whole : List ℕ) (p : Program) → StandsFor whole p → length (input_types p Sorts.EdgeProperty) ≡ length (types_of Sorts.EdgeProperty (input_declarations p))
asked_columns whole p stands =
    let declared : p.inputs + p.outputs ≤ length p.declarations = (typed-table p (accepted-of-text whole p stands).typed).interface.declared in
    let few : p.inputs ≤ length p.declarations = omega (arith, declared) in
    ap (λ ts. length ts) (same-types Sorts.EdgeProperty p few)

pub asked_inputs : (whole : List ℕ) (p : Program) (f : Format) (text : List ℕ) (g : NumberedGraph) (words : List (List ℕ)) (args : List Value)
    → StandsFor whole p → IsGraph g → IsGraphOf (format_of f) (shape_of p) text g → values_bound (inputs_of p) words g.numbers ≡ Ok args → HasInputs (node_count g) p g args
asked_inputs whole p f text g words args stands graph of_text values =
    let columns = columns_typed f p text g of_text in
    let fits = runs-fit whole p words g args (record { stands = stands; graph = graph; nodes = columns.nodes; edges = columns.edges; bound = values }) in
    fits.has
