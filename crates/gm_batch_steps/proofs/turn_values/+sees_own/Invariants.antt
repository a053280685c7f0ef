use Rattle.gm_image.specs.Views.{term}
use Rattle.gm_image.specs.Parts.{depth}
use Rattle.gm_batch_steps.proofs.turn_values.+sees_own.Given as goal

abbrev pub decreases-sees_own : goal.decreases-sees_own
decreases-sees_own l = depth (term l.expr.now)
