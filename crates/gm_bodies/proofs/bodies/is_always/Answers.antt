use Rattle.std.proofs.Common.{ap, ◌∙◌}
use Rattle.gm_bodies.specs.Sites.{is_always}
use Rattle.gm_bodies.proofs.BodyLines.{not_always}
use Rattle.gm_bodies.proofs.bodies.is_always.Goals as goal

pub returns-in_default : goal.returns-in_default
returns-in_default c = not_always c.shape.result c.in_default.not-Leaf ∙ ap is_always c.shape.ensures.same
