-- Taking blocks take.
use Rattle.gm_lowering.proofs.TakingSteps.{taking-blocks}
use Rattle.gm_lowering.proofs.laws.taking_blocks_take.Goals as goal

pub returns : goal.returns
returns c = taking-blocks
