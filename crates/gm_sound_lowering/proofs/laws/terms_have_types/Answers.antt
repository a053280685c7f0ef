-- Terms have types.
use Rattle.gm_sound_lowering.proofs.Environments.{terms-have-types}
use Rattle.gm_sound_lowering.proofs.laws.terms_have_types.Goals as goal

pub returns : goal.returns
returns c = terms-have-types
