-- Each shape goes down to its parts: the greatest depth among them falls.
use Rattle.std.proofs.Common.{◌+◌, ◌*◌, max}
use Rattle.gm_image.specs.declared.lines.Expr.{size-Expr}
use Rattle.gm_machine.proofs.expressions.+evaluation.Given as goal

abbrev pub decreases-evaluate : goal.decreases-evaluate
decreases-evaluate l = 3 * size-Expr l.e.now + 1

abbrev pub decreases-by_shape : goal.decreases-by_shape
decreases-by_shape l = 3 * size-Expr l.e.now

abbrev pub decreases-unary : goal.decreases-unary
decreases-unary l = 3 * size-Expr l.a.now + 2

abbrev pub decreases-binary : goal.decreases-binary
decreases-binary l = 3 * max (size-Expr l.a.now) (size-Expr l.b.now) + 2

abbrev pub decreases-node_at : goal.decreases-node_at
decreases-node_at l = 3 * size-Expr l.a.now + 2

abbrev pub decreases-live_at : goal.decreases-live_at
decreases-live_at l = 3 * size-Expr l.a.now + 2

abbrev pub decreases-both : goal.decreases-both
decreases-both l = 3 * max (size-Expr l.a.now) (size-Expr l.b.now) + 2

abbrev pub decreases-either : goal.decreases-either
decreases-either l = 3 * max (size-Expr l.a.now) (size-Expr l.b.now) + 2

abbrev pub decreases-choose : goal.decreases-choose
decreases-choose l = 3 * max (size-Expr l.c.now) (max (size-Expr l.a.now) (size-Expr l.b.now)) + 2
