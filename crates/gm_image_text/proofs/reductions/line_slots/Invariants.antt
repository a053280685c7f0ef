use Rattle.std.proofs.Common.{length, map}
use Rattle.gm_image.specs.Views.{target}
use Rattle.gm_image_text.specs.Reading.{words_left, target_at}
use Rattle.gm_image_text.proofs.ToTheEnd.{Goes}
use Rattle.gm_image_text.proofs.reductions.line_slots.Given as goal

abbrev pub invariant-slots : goal.invariant-slots
invariant-slots l = Goes target_at (map target l.slots.items) (words_left l.rest) (words_left l.words)

abbrev pub decreases-slots : goal.decreases-slots
decreases-slots l = length (words_left l.rest)
