-- Names keep.
use Rattle.gm_sound_lowering.proofs.Names.{names-keep}
use Rattle.gm_sound_lowering.proofs.laws.names_keep.Goals as goal

pub returns : goal.returns
returns c = names-keep
