-- Images are sound.
use Rattle.gm_sound_lowering.proofs.Whole.{images-are-sound}
use Rattle.gm_sound_lowering.proofs.laws.images_are_sound.Goals as goal

pub returns : goal.returns
returns c = images-are-sound
