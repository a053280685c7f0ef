use Rattle.std.proofs.Common.{map}
use Rattle.gm_image.specs.Views.{line}
use Rattle.gm_verify.proofs.Insides.{Insides}
use Rattle.gm_verify.proofs.lines.insides.Given as goal

-- the lines so far are known
abbrev pub invariant-loop-vertex_line : goal.invariant-loop-vertex_line
invariant-loop-vertex_line l = Insides l.insides.items (map line l.lines) l.vertex_line-index l.left
