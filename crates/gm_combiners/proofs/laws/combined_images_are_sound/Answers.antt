-- The soundness of an image with combiners.
use Rattle.gm_combiners.proofs.Made.{made-sound}
use Rattle.gm_combiners.proofs.laws.combined_images_are_sound.Goals as goal

pub returns : goal.returns
returns c p sound = made-sound p sound
