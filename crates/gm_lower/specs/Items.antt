-- Inputs and outputs of an image.
use Rattle.std.specs.Prelude.{ℕ, Bool, not, List, filter}
use Rattle.gm_ast.specs.Program.{Program}
use Rattle.gm_image.specs.Names.{is_of_edges}
use Rattle.gm_image.specs.Program.{Item}
use Rattle.gm_lowering.specs.Lowered.{items_by}
use Rattle.gm_semantics.specs.Statements.{variable_at}

-- a variable as an input or an output, which the graph is not
abbrev pub items_of : Program → ℕ → List Item
items_of p x = items_by p (variable_at p.declarations x).sort x

-- whether a global or a field holds an item. An image has no other outputs
abbrev pub is_held : Item → Bool
is_held i = not (is_of_edges i)

abbrev pub held : List Item → List Item
held is = filter is_held is
