-- The run of an image with other kinds.
use Rattle.gm_combiners.proofs.Running.{machine-same}
use Rattle.gm_combiners.proofs.laws.kinds_keep_runs.Goals as goal

pub returns : goal.returns
returns c p kinds g args turns = machine-same p kinds g args turns
