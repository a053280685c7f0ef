-- The image that is made of a program.
use Rattle.std.specs.Prelude.{ℕ, List, length}
use Rattle.gm_ast.specs.Program as S
use Rattle.gm_image.specs.declared.images.Kind.{Kind}
use Rattle.gm_image.specs.Program.{Program}
use Rattle.gm_lowering.specs.Layouts.{Layout}
use Rattle.gm_lowering.specs.Lowered as L
use Rattle.gm_lowering.specs.Lowered.{lowered}
use Rattle.gm_lower.specs.Items.{held}

-- the program's image, with those outputs alone that globals and fields hold. Where no output is a property of edges, these are all
abbrev pub image_of : S.Program → Program
image_of p = let i : Program = lowered p in record i { outputs = held i.outputs }

-- the same with some kinds of messages
abbrev pub with_kinds : S.Program → List Kind → Program
with_kinds p kinds = let i : Program = image_of p in record i { kinds = kinds }

-- the part of a body, where the last line of the master list is known
abbrev pub part_of : Layout → S.Stmt → ℕ → L.Part
part_of c s finish = L.part (record { layout = c; finish = finish }) s L.start

-- the part of a body. How many lines it has does not depend on where they lead
abbrev pub whole_of : Layout → S.Stmt → L.Part
whole_of c s = part_of c s (length (part_of c s 0).commands)
