-- The step of a vertex whose own body sends is the loop's iteration.
use Rattle.gm_lowering.proofs.OwnSends.{sending-own-steps}
use Rattle.gm_lowering.proofs.laws.sending_own_steps_are_iterations.Goals as goal

pub returns : goal.returns
returns c = sending-own-steps
