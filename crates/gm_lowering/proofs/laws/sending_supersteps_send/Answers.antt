-- Sending supersteps send.
use Rattle.gm_lowering.proofs.SenderSupersteps.{sending-supersteps}
use Rattle.gm_lowering.proofs.laws.sending_supersteps_send.Goals as goal

pub returns : goal.returns
returns c = sending-supersteps
