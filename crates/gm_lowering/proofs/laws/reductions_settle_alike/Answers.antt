-- Reductions are taken alike.
use Rattle.gm_lowering.proofs.Settles.{reductions-settle}
use Rattle.gm_lowering.proofs.laws.reductions_settle_alike.Goals as goal

pub returns : goal.returns
returns c = reductions-settle
