-- Three supersteps are a message loop whose receivers send.
use Rattle.gm_lowering.proofs.ReceiverSendLoops.{sending-message-loops}
use Rattle.gm_lowering.proofs.laws.sending_message_loops_are_three_supersteps.Goals as goal

pub returns : goal.returns
returns c = sending-message-loops
