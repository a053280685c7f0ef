use Rattle.gm_image.specs.Views.{term}
use Rattle.gm_image.specs.Parts.{depth}
use Rattle.gm_verify.proofs.leaves.+all_leaves.Given as goal

abbrev pub decreases-all_leaves : goal.decreases-all_leaves
decreases-all_leaves l = depth (term l.expr.now)
