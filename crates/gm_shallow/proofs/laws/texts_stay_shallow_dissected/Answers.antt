use Rattle.gm_shallow.proofs.Cutting.{dissected-shallow}
use Rattle.gm_shallow.proofs.laws.texts_stay_shallow_dissected.Goals as goal

pub returns : goal.returns
returns c = dissected-shallow
