use Rattle.gm_shallow.proofs.Together.{few-levels}
use Rattle.gm_shallow.proofs.laws.passes_add_few_levels.Goals as goal

pub returns : goal.returns
returns c = few-levels
