-- The run of an image without the blocks that no step runs.
use Rattle.gm_merge.proofs.SameRuns.{trimmed-runs}
use Rattle.gm_merge.proofs.laws.trimmed_images_run_as_before.Goals as goal

pub returns : goal.returns
returns c p g args turns sound = trimmed-runs p g sound args turns
