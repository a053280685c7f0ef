use Rattle.gm_shallow.proofs.Cutting.{cutting-adds-few}
use Rattle.gm_shallow.proofs.laws.cutting_adds_few_levels.Goals as goal

pub returns : goal.returns
returns c = cutting-adds-few
