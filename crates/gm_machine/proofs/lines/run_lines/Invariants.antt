-- What is left leads to where all lines lead.
use Rattle.std.proofs.Common.{◌≡◌, drop, map}
use Rattle.gm_image.specs.Views.{line}
use Rattle.gm_machine.specs.VertexViews.{context_of, state_of}
use Rattle.gm_machine.specs.Vertex.{lines_after}
use Rattle.gm_machine.proofs.lines.run_lines.Given as goal

abbrev pub invariant-loop-l : goal.invariant-loop-l
invariant-loop-l l =
    lines_after (context_of l.context) (map line (drop l.l-index l.lines)) l.skip (state_of l.state)
    ≡ lines_after (context_of l.context) (map line l.lines) 0 (state_of l.fn.state)
