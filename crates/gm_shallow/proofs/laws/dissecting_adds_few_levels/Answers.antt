use Rattle.gm_shallow.proofs.Cutting.{dissecting-adds-few}
use Rattle.gm_shallow.proofs.laws.dissecting_adds_few_levels.Goals as goal

pub returns : goal.returns
returns c = dissecting-adds-few
