use Rattle.gm_image.specs.Views.{term}
use Rattle.gm_image.specs.Parts.{depth}
use Rattle.gm_machine.proofs.asking.+reads_outward.Given as goal

abbrev pub decreases-reads_outward : goal.decreases-reads_outward
decreases-reads_outward l = depth (term l.expr.now)
