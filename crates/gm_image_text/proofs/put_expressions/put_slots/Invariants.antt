use Rattle.gm_image.specs.Views.{target}
use Rattle.gm_image_text.specs.Lines.{led}
use Rattle.gm_image_text.specs.Spelling.{target_words}
use Rattle.gm_image_text.proofs.Writing.{IsWriting}
use Rattle.gm_image_text.proofs.put_expressions.put_slots.Given as goal

abbrev pub invariant-loop-slot : goal.invariant-loop-slot
invariant-loop-slot l = IsWriting (λ s. led (target_words (target s))) l.initial.text.items l.text.items l.slots l.slot-index
