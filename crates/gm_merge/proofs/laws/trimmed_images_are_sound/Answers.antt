-- An image without the blocks that no step runs keeps the rules, and its numbers their ranges.
use Rattle.gm_merge.proofs.SoundTrims.{trimmed-sound, trimmed-ranged}
use Rattle.gm_merge.proofs.laws.trimmed_images_are_sound.Goals as goal

pub returns-clause-sound : goal.returns-clause-sound
returns-clause-sound c = trimmed-sound

pub returns-clause-ranged : goal.returns-clause-ranged
returns-clause-ranged c = trimmed-ranged
