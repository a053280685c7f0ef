-- A send block sends along the edges.
use Rattle.gm_lowering.proofs.Sends.{send-blocks-send}
use Rattle.gm_lowering.proofs.laws.send_blocks_send.Goals as goal

pub returns : goal.returns
returns c = send-blocks-send
