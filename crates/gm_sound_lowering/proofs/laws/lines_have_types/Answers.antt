-- Lines have types.
use Rattle.gm_sound_lowering.proofs.Typed.{lines-have-types}
use Rattle.gm_sound_lowering.proofs.laws.lines_have_types.Goals as goal

pub returns : goal.returns
returns c = lines-have-types
