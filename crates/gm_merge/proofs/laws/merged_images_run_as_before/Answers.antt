-- What is said of the merged image.
use Rattle.gm_merge.proofs.Merging.{merged-keeps}
use Rattle.gm_merge.proofs.laws.merged_images_run_as_before.Goals as goal

pub returns : goal.returns
returns c = merged-keeps
