-- What is said of the merged image.
use Rattle.gm_merge.proofs.Merging.{none-left}
use Rattle.gm_merge.proofs.laws.none_is_left.Goals as goal

pub returns : goal.returns
returns c = none-left
