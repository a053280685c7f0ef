-- Sending loops are two supersteps.
use Rattle.gm_lowering.proofs.SenderSupersteps.{sending-loops}
use Rattle.gm_lowering.proofs.laws.sending_loops_are_two_supersteps.Goals as goal

pub returns : goal.returns
returns c = sending-loops
