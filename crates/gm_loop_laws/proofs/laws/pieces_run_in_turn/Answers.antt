-- Loops run as the loops of their pieces.
use Rattle.gm_loop_laws.proofs.Parting.{pieces-hold}
use Rattle.gm_loop_laws.proofs.laws.pieces_run_in_turn.Goals as goal

pub returns : goal.returns
returns c = pieces-hold
