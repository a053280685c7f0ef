-- What a program asks of its graph and of its arguments, and what it writes, by its declarations: the first of them
-- are its inputs, and the next its outputs. Of inputs or outputs that are counted but not declared nothing is said.
use Rattle.std.specs.Prelude.{ℕ, List, map, filter, take, drop}
use Rattle.std.specs.Str.Lossy.{utf8_lossy}
use Rattle.gm_value.specs.declared.values.VType.{VType}
use Rattle.gm_graph.specs.declared.builds.Shape.{Shape}
use Rattle.gm_words.specs.declared.arguments.Input.{Input}
use Rattle.gm_ast.specs.declared.tree.Declaration.{Declaration}
use Rattle.gm_ast.specs.declared.tree.Sort.{Sort}
use Rattle.gm_ast.specs.declared.tree.Sort.TheVariants.{Scalar, NodeProperty, EdgeProperty}
use Rattle.gm_ast.specs.Names.{is}
use Rattle.gm_ast.specs.Program.{Program}
use Rattle.gm_source_runs.specs.Walks.{walks_of}

-- the declarations of the inputs, and of the outputs
abbrev pub input_declarations : Program → List Declaration
input_declarations p = take p.inputs p.declarations

abbrev pub output_declarations : Program → List Declaration
output_declarations p = take p.outputs (drop p.inputs p.declarations)

-- those of a sort, in their order
abbrev pub of_sort : Sort → List Declaration → List Declaration
of_sort sort ds = filter (λ d. is sort d.variable) ds

-- their types
abbrev pub types_of : Sort → List Declaration → List VType
types_of sort ds = map (λ d. d.variable.vtype) (of_sort sort ds)

-- their names
abbrev pub names_of : Sort → List Declaration → List (List ℕ)
names_of sort ds = map (λ d. d.name) (of_sort sort ds)

-- what a program asks of its graph: a column for each property among the inputs, in order of declaration, and rows for the walks
-- that it takes
abbrev pub shape_of : Program → Shape
shape_of p = record {
  nodes = types_of NodeProperty (input_declarations p);
  edges = types_of EdgeProperty (input_declarations p);
  walks = walks_of p;
}

-- a scalar input, with its name as a text: the bytes of a name that are no text are replaced
abbrev pub input_of : Declaration → Input
input_of d = record { name = utf8_lossy d.name; vtype = d.variable.vtype }

-- the scalar inputs, in order of declaration
abbrev pub inputs_of : Program → List Input
inputs_of p = map input_of (of_sort Scalar (input_declarations p))

-- the names of the scalar outputs, and of the output properties, in order of declaration
abbrev pub scalar_outputs : Program → List (List ℕ)
scalar_outputs p = names_of Scalar (output_declarations p)

abbrev pub property_outputs : Program → List (List ℕ)
property_outputs p = names_of NodeProperty (output_declarations p)
