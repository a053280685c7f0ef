use Rattle.std.proofs.Common.{◌∙◌, sym, ap}
use Rattle.gm_demo.specs.Draws.{next_held}
use Rattle.gm_demo.proofs.Drawing.{held_after-three}
use Rattle.gm_demo.proofs.edges.next_edge.Goals as goal

pub returns-clause-held : goal.returns-clause-held
returns-clause-held c =
    λ k e. c.draw-3.ensures.held ∙ ap next_held c.draw-2.ensures.held ∙ ap (λ x. next_held (next_held x)) (c.draw.ensures.held ∙ ap next_held e) ∙ sym (held_after-three c.args.nodes k)
