-- Runs are followed.
use Rattle.gm_lowering_master.proofs.Inside.{runs-are-followed}
use Rattle.gm_lowering_master.proofs.laws.runs_are_followed.Goals as goal

pub returns : goal.returns
returns c = runs-are-followed
