use Rattle.gm_locals.proofs.MovedAll.{locals-moved-out}
use Rattle.gm_locals.proofs.laws.locals_have_gone.Goals as goal

pub returns : goal.returns
returns c = locals-moved-out
