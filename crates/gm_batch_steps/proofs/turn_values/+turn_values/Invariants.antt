-- Each shape goes down to its parts, whose greatest depth is less.
use Rattle.std.proofs.Common.{◌+◌, ◌*◌, max}
use Rattle.gm_image.specs.Views.{term}
use Rattle.gm_image.specs.Parts.{depth}
use Rattle.gm_batch_steps.proofs.turn_values.+turn_values.Given as goal

abbrev pub decreases-turn_values : goal.decreases-turn_values
decreases-turn_values l = 2 * depth (term l.expr.now)

abbrev pub decreases-unary_of : goal.decreases-unary_of
decreases-unary_of l = 2 * depth (term l.a.now) + 1

abbrev pub decreases-binary_of : goal.decreases-binary_of
decreases-binary_of l = 2 * max (depth (term l.a.now)) (depth (term l.b.now)) + 1
