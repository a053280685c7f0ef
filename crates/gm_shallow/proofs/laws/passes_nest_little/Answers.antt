use Rattle.gm_shallow.proofs.Cutting.{nest-little}
use Rattle.gm_shallow.proofs.laws.passes_nest_little.Goals as goal

pub returns : goal.returns
returns c = nest-little
