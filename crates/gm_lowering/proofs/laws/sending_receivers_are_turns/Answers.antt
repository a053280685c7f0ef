-- Steps of receivers that send are turns.
use Rattle.gm_lowering.proofs.ReceiverSendSteps.{sending-receivers}
use Rattle.gm_lowering.proofs.laws.sending_receivers_are_turns.Goals as goal

pub returns : goal.returns
returns c = sending-receivers
