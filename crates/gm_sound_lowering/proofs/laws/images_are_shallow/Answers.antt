-- Images are shallow.
use Rattle.gm_sound_lowering.proofs.DepthBlocks.{images-are-shallow}
use Rattle.gm_sound_lowering.proofs.laws.images_are_shallow.Goals as goal

pub returns : goal.returns
returns c = images-are-shallow
