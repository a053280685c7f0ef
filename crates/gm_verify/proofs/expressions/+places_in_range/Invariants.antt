use Rattle.gm_image.specs.Views.{term}
use Rattle.gm_image.specs.Parts.{depth}
use Rattle.gm_verify.proofs.expressions.+places_in_range.Given as goal

abbrev pub decreases-places_in_range : goal.decreases-places_in_range
decreases-places_in_range l = depth (term l.expr.now)
