use Rattle.gm_desugaring.proofs.Together.{all-keep}
use Rattle.gm_desugaring.proofs.laws.passes_keep_typed_runs.Goals as goal

pub returns : goal.returns
returns c = all-keep
