use Rattle.gm_shallow.proofs.Cutting.{pieces-shallow}
use Rattle.gm_shallow.proofs.laws.texts_stay_shallow_in_pieces.Goals as goal

pub returns : goal.returns
returns c = pieces-shallow
