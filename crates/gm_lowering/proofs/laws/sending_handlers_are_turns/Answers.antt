-- Handlers that send are turns.
use Rattle.gm_lowering.proofs.ReceiverSends.{sending-handlers}
use Rattle.gm_lowering.proofs.laws.sending_handlers_are_turns.Goals as goal

pub returns : goal.returns
returns c = sending-handlers
