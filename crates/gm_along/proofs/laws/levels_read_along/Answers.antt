use Rattle.gm_along.proofs.Together.{levels}
use Rattle.gm_along.proofs.laws.levels_read_along.Goals as goal

pub returns : goal.returns
returns c = levels
