-- What an image asks of its graph and of its arguments, and what it writes, by its inputs and outputs.
use Rattle.std.specs.Prelude.{ℕ, List, map}
use Rattle.std.specs.Str.Lossy.{utf8_lossy}
use Rattle.gm_value.specs.declared.values.VType.{VType}
use Rattle.gm_graph.specs.declared.builds.Shape.{Shape}
use Rattle.gm_words.specs.declared.arguments.Input.{Input}
use Rattle.gm_image.specs.Program.{Program, Item}
use Rattle.gm_machine.specs.Machine.{scalars, properties}
use Rattle.gm_exec.specs.Walks.{walks_of}

-- the types of some inputs, and the names of some outputs
abbrev pub types_of : List Item → List VType
types_of items = map (λ i. i.vtype) items

abbrev pub names_of : List Item → List (List ℕ)
names_of items = map (λ i. i.name) items

-- what an image asks of its graph: a column for each property of nodes among the inputs, in the order of their lines, those of
-- edges that the image declares, which are its properties of edges, and rows for the walks that it takes
abbrev pub shape_of : Program → Shape
shape_of p = record { nodes = types_of (properties p.inputs); edges = p.columns; walks = walks_of p }

-- a scalar input, with its name as a text: the bytes of a name that are no text are replaced
abbrev pub input_of : List ℕ → VType → Input
input_of name vtype = record { name = utf8_lossy name; vtype = vtype }

-- the scalar inputs, in the order of their lines
abbrev pub inputs_of : Program → List Input
inputs_of p = map (λ i. input_of i.name i.vtype) (scalars p.inputs)

-- the names of the scalar outputs, and of the output properties, in the order of their lines
abbrev pub scalar_outputs : Program → List (List ℕ)
scalar_outputs p = names_of (scalars p.outputs)

abbrev pub property_outputs : Program → List (List ℕ)
property_outputs p = names_of (properties p.outputs)
