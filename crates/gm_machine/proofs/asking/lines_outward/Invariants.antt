use Rattle.std.proofs.Common.{◌≡◌, drop, map}
use Rattle.std.specs.List.{list_all}
use Rattle.gm_image.specs.Views.{line}
use Rattle.gm_machine.specs.Asking.{line_outward}
use Rattle.gm_machine.proofs.asking.lines_outward.Given as goal

-- what is left gives the answer
abbrev pub invariant-loop-vertex_line : goal.invariant-loop-vertex_line
invariant-loop-vertex_line l = list_all line_outward (map line (drop l.vertex_line-index l.lines)) ≡ list_all line_outward (map line l.lines)
