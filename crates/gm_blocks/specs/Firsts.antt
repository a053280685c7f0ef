-- First uses of the code, and the lines of locals that begin anew, one by one.
use Rattle.std.specs.Prelude.{ℕ, suc, if◌then◌else◌, List, [], ◌∷◌, ◌++◌}
use Rattle.gm_ast.specs.declared.tree.Declaration.{Declaration}
use Rattle.gm_ast.specs.Program.{Stmt}
use Rattle.gm_image.specs.Program.{Line}
use Rattle.gm_lowering.specs.Layouts.{Layout}
use Rattle.gm_lowering.specs.Blocks as B
use Rattle.gm_lowering.specs.Blocks.{is_read_first, zero_line}
use Rattle.gm_blocks.specs.declared.firsts.FirstUse.{FirstUse}
use Rattle.gm_blocks.specs.declared.firsts.FirstUse.TheVariants as uses

-- what a body does first with a local
abbrev pub as_use : FirstUse → B.FirstUse
as_use uses.Unused = B.Unused
as_use uses.Set = B.Set
as_use uses.Read = B.Read

-- the line of a local that is read before it is set
abbrev pub zero_line_if : Layout → Stmt → ℕ → List Line
zero_line_if c body x = if is_read_first c body x then zero_line c x ∷ [] else []

-- the lines of the locals from a number on, one for each declaration that is left
abbrev pub zero_lines_from : Layout → Stmt → ℕ → List Declaration → List Line
zero_lines_from c body x [] = []
zero_lines_from c body x (d ∷ ds) = zero_line_if c body x ++ zero_lines_from c body (suc x) ds
