use Rattle.std.proofs.Common.{◌≡◌, drop, map}
use Rattle.std.specs.List.{list_all}
use Rattle.gm_image.specs.Views.{line}
use Rattle.gm_merge.specs.Tests.{line_holds}
use Rattle.gm_merge.proofs.tests.lines_hold.Given as goal

-- the lines that are left give the answer
abbrev pub invariant-loop-vertex_line : goal.invariant-loop-vertex_line
invariant-loop-vertex_line l = list_all (line_holds l.fn.test) (map line (drop l.vertex_line-index l.vertex_lines)) ≡ list_all (line_holds l.fn.test) (map line l.vertex_lines)
