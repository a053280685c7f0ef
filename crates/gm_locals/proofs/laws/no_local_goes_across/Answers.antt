use Rattle.gm_locals.proofs.Across.{none-across}
use Rattle.gm_locals.proofs.laws.no_local_goes_across.Goals as goal

pub returns : goal.returns
returns c = none-across
