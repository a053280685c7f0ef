use Rattle.gm_along.proofs.Together.{plain-loops}
use Rattle.gm_along.proofs.laws.plain_loops_read_along.Goals as goal

pub returns : goal.returns
returns c = λ p can e. plain-loops p can e
