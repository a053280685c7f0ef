-- The run of an image in which two steps are joined.
use Rattle.gm_merge_laws.proofs.Sounds.{join-keeps}
use Rattle.gm_merge_laws.proofs.laws.joined_steps_are_one_step.Goals as goal

pub returns : goal.returns
returns c = join-keeps
