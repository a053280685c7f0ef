-- The image that the compiler makes of a program, and what it is that an image stands for a program.
use Rattle.std.specs.Prelude.{◌≡◌, ℕ, Bool, ◌&&◌, is_none, List, [], length}
use Rattle.gm_value.specs.declared.values.Value.{Value}
use Rattle.gm_model.specs.Graphs.{NumberedGraph, node_count}
use Rattle.gm_ast.specs.declared.tree.Sort.TheVariants as Sorts
use Rattle.gm_ast.specs.Canonical.{uncanonical}
use Rattle.gm_ast.specs.Procedures.{IsTyped}
use Rattle.gm_ast.specs.Program.{Program}
use Rattle.gm_desugaring.specs.Desugaring.{CanBecomeLoops}
use Rattle.gm_combiners.specs.Combiners.{combining}
use Rattle.gm_compilable.specs.Parted.{with_levels, parted}
use Rattle.gm_image.specs.Program as Image
use Rattle.gm_image.specs.Soundness.{first_broken}
use Rattle.gm_lower.specs.Images.{image_of}
use Rattle.gm_machine.specs.Machine.{machine}
use Rattle.gm_merge.specs.Merged.{merged}
use Rattle.gm_parting.specs.Tuples.{has_even_tuples}
use Rattle.gm_plain_loops.specs.Tests.{tells_phases, suits_loops}
use Rattle.gm_semantics.specs.Outcomes.{mean}
use Rattle.gm_typed_stores.specs.Laws.{HasInputs, input_types}

-- what the program of an accepted text has for the passes: they can write it with plain loops, and it breaks no rule of types or of canonical form
pub record MayBeParted (p : Program) : Type 0 where
  pub loops : CanBecomeLoops p
  pub typed : IsTyped p
  pub canonical : uncanonical p ≡ []

-- whether the loops of a program can be parted: the targets of each reduction are declared inside as many loops
abbrev pub can_be_parted : Program → Bool
can_be_parted p = has_even_tuples (with_levels p)

-- whether an image breaks no rule
abbrev pub breaks_no_rule : Image.Program → Bool
breaks_no_rule i = is_none (first_broken i)

-- whether a program in its last form can be lowered: its phases are told by a master list, its loops suit, and its image breaks no rule
abbrev pub can_be_lowered : Program → Bool
can_be_lowered p = (tells_phases p && suits_loops p) && breaks_no_rule (image_of p)

-- whether the compiler makes an image of a program
abbrev pub has_image : Program → Bool
has_image p = can_be_parted p && can_be_lowered (parted p)

-- the image of a program: its loops parted, lowered, consecutive supersteps merged, and kinds with their combiners
abbrev pub compiled : Program → Image.Program
compiled p = combining (merged (image_of (parted p)))

-- an image stands for a program: over each graph and for all arguments that the program asks for, and every bound, the machine has the outcome that the program means; and the image declares as many columns as the program has properties of edges among its inputs
pub record Represents (i : Image.Program) (p : Program) : Type 0 where
  pub outcome : (g : NumberedGraph) (args : List Value) (bound : ℕ) → HasInputs (node_count g) p g args → (machine i g args bound).outcome ≡ mean p g args bound
  pub columns : length i.columns ≡ length (input_types p Sorts.EdgeProperty)
