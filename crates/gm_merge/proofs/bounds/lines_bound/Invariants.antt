use Rattle.std.proofs.Common.{◌≡◌, drop, map}
use Rattle.gm_image.specs.Views.{line}
use Rattle.gm_merge.specs.Bounds.{lines_bound}
use Rattle.gm_merge.proofs.bounds.lines_bound.Given as goal

-- the lines that are left end at the same bound
abbrev pub invariant-loop-vertex_line : goal.invariant-loop-vertex_line
invariant-loop-vertex_line l = lines_bound l.bound (map line (drop l.vertex_line-index l.vertex_lines)) ≡ lines_bound l.start (map line l.vertex_lines)
