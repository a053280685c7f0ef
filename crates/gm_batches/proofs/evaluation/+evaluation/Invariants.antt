-- Each shape goes down to its parts, whose greatest depth is less.
use Rattle.std.proofs.Common.{◌+◌, ◌*◌, max}
use Rattle.gm_image.specs.Views.{term}
use Rattle.gm_image.specs.Parts.{depth}
use Rattle.gm_batches.proofs.evaluation.+evaluation.Given as goal

abbrev pub decreases-evaluate : goal.decreases-evaluate
decreases-evaluate l = 3 * depth (term l.expr.now)

abbrev pub decreases-unary_of : goal.decreases-unary_of
decreases-unary_of l = 3 * depth (term l.a.now) + 2

abbrev pub decreases-binary_of : goal.decreases-binary_of
decreases-binary_of l = 3 * max (depth (term l.a.now)) (depth (term l.c.now)) + 2

abbrev pub decreases-both_in : goal.decreases-both_in
decreases-both_in l = 3 * depth (term l.a.now) + 1

abbrev pub decreases-both : goal.decreases-both
decreases-both l = 3 * max (depth (term l.c.now)) (depth (term l.a.now)) + 2

abbrev pub decreases-either_in : goal.decreases-either_in
decreases-either_in l = 3 * depth (term l.a.now) + 1

abbrev pub decreases-either : goal.decreases-either
decreases-either l = 3 * max (depth (term l.c.now)) (depth (term l.a.now)) + 2

abbrev pub decreases-choice_in : goal.decreases-choice_in
decreases-choice_in l = 3 * max (depth (term l.a.now)) (depth (term l.d.now)) + 1

abbrev pub decreases-choice_of : goal.decreases-choice_of
decreases-choice_of l = 3 * max (depth (term l.c.now)) (max (depth (term l.a.now)) (depth (term l.d.now))) + 2
