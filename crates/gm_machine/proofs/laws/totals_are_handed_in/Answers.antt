use Rattle.gm_machine.proofs.HandedTotals.{step-handed}
use Rattle.gm_machine.proofs.laws.totals_are_handed_in.Goals as goal

pub returns : goal.returns
returns c = step-handed
