-- What is left of the body leads to where all of it leads.
use Rattle.std.proofs.Common.{◌≡◌, drop, map}
use Rattle.gm_image.specs.Views.{line}
use Rattle.gm_machine.specs.VertexViews.{context_of, state_of}
use Rattle.gm_machine.specs.Vertex.{body_after}
use Rattle.gm_machine.proofs.bodies.run_body.Given as goal

abbrev pub invariant-loop-i : goal.invariant-loop-i
invariant-loop-i l =
    body_after l.places (context_of l.context) (map line (drop l.i l.body)) l.skip (state_of l.state)
    ≡ body_after l.places (context_of l.context) (map line l.body) 0 (state_of l.fn.state)
