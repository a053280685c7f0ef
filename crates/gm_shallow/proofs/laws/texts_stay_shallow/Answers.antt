use Rattle.gm_shallow.proofs.Together.{texts-shallow}
use Rattle.gm_shallow.proofs.laws.texts_stay_shallow.Goals as goal

pub returns : goal.returns
returns c = texts-shallow
