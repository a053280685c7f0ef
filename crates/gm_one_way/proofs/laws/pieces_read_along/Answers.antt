use Rattle.gm_one_way.proofs.Pieces.{pieces-keep}
use Rattle.gm_one_way.proofs.laws.pieces_read_along.Goals as goal

pub returns : goal.returns
returns c = pieces-keep
