-- Images of ready programs are sound.
use Rattle.gm_sound_lowering.proofs.Readied.{ready-images-are-sound}
use Rattle.gm_sound_lowering.proofs.laws.ready_images_are_sound.Goals as goal

pub returns : goal.returns
returns c = ready-images-are-sound
