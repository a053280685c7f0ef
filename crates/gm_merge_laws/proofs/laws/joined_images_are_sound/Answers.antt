-- An image in which two steps are joined keeps the rules, and its numbers their ranges.
use Rattle.gm_merge_laws.proofs.Ranging.{join-ranged}
use Rattle.gm_merge_laws.proofs.Sounder.{next-sound}
use Rattle.gm_merge_laws.proofs.laws.joined_images_are_sound.Goals as goal

pub returns-clause-sound : goal.returns-clause-sound
returns-clause-sound c = λ p i a b sound joinable few. next-sound p i a b joinable sound few

pub returns-clause-ranged : goal.returns-clause-ranged
returns-clause-ranged c = join-ranged
