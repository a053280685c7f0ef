use Rattle.std.proofs.Common.{◌≡◌, take, map}
use Rattle.gm_image.specs.Views.{line}
use Rattle.gm_merge.proofs.copies.copy_lines.Given as goal

-- copies of those so far
abbrev pub invariant-loop-vertex_line : goal.invariant-loop-vertex_line
invariant-loop-vertex_line l = map line l.copies.items ≡ map line (take l.vertex_line-index l.lines)
