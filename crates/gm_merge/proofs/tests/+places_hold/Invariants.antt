use Rattle.gm_image.specs.Views.{term}
use Rattle.gm_image.specs.Parts.{depth}
use Rattle.gm_merge.proofs.tests.+places_hold.Given as goal

abbrev pub decreases-places_hold : goal.decreases-places_hold
decreases-places_hold l = depth (term l.expr.now)
