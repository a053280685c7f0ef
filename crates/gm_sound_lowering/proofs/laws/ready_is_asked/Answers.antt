-- Of ready programs all is asked.
use Rattle.gm_sound_lowering.proofs.Readied.{ready-is-asked}
use Rattle.gm_sound_lowering.proofs.laws.ready_is_asked.Goals as goal

pub returns : goal.returns
returns c = ready-is-asked
