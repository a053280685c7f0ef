use Rattle.gm_image.specs.Views.{term}
use Rattle.gm_image.specs.Parts.{depth}
use Rattle.gm_merge.proofs.tests.+leaves_hold.Given as goal

abbrev pub decreases-leaves_hold : goal.decreases-leaves_hold
decreases-leaves_hold l = depth (term l.expr.now)
