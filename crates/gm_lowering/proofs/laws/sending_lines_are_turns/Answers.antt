-- Sending lines are turns.
use Rattle.gm_lowering.proofs.SenderTurns.{sending-turns}
use Rattle.gm_lowering.proofs.laws.sending_lines_are_turns.Goals as goal

pub returns : goal.returns
returns c = sending-turns
