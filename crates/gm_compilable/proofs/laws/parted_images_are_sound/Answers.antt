-- A law of parted programs.
use Rattle.gm_compilable.proofs.Lowerable.{parted-sound}
use Rattle.gm_compilable.proofs.laws.parted_images_are_sound.Goals as goal

pub returns : goal.returns
returns c = parted-sound
