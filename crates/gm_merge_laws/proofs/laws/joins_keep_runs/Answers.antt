-- Joins one after another keep what one keeps.
use Rattle.gm_merge_laws.proofs.Chains.{joins-keep}
use Rattle.gm_merge_laws.proofs.laws.joins_keep_runs.Goals as goal

pub returns : goal.returns
returns c = joins-keep
