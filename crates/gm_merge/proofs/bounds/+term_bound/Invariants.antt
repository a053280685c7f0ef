use Rattle.gm_image.specs.Views.{term}
use Rattle.gm_image.specs.Parts.{depth}
use Rattle.gm_merge.proofs.bounds.+term_bound.Given as goal

abbrev pub decreases-term_bound : goal.decreases-term_bound
decreases-term_bound l = depth (term l.expr.now)
