use Rattle.gm_image.specs.Views.{term}
use Rattle.gm_image.specs.Parts.{depth}
use Rattle.gm_image_text.proofs.put_expressions.+put_expr.Given as goal

abbrev pub decreases-put_expr : goal.decreases-put_expr
decreases-put_expr l = depth (term l.expr.now)
