-- Rules make sound.
use Rattle.gm_sound_lowering.proofs.Sound.{rules-make-sound}
use Rattle.gm_sound_lowering.proofs.laws.rules_make_sound.Goals as goal

pub returns : goal.returns
returns c = rules-make-sound
