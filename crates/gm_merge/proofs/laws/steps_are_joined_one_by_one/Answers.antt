-- What is said of the merged image.
use Rattle.gm_merge.proofs.Walks.{lines-joined}
use Rattle.gm_merge.proofs.laws.steps_are_joined_one_by_one.Goals as goal

pub returns : goal.returns
returns c = lines-joined
