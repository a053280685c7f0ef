-- Sending steps are iterations.
use Rattle.gm_lowering.proofs.SenderSteps.{sending-steps}
use Rattle.gm_lowering.proofs.laws.sending_steps_are_iterations.Goals as goal

pub returns : goal.returns
returns c = sending-steps
