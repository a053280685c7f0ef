use Rattle.gm_desugaring.proofs.PlainLoops.{all-keep-totals}
use Rattle.gm_desugaring.proofs.laws.passes_keep_totals.Goals as goal

pub returns : goal.returns
returns c = all-keep-totals
