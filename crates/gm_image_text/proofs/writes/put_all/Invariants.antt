use Rattle.gm_image_text.specs.Lines.{text_of}
use Rattle.gm_image_text.proofs.Writing.{IsWriting}
use Rattle.gm_image_text.proofs.writes.put_all.Given as goal

abbrev pub invariant-loop-item : goal.invariant-loop-item
invariant-loop-item g l = IsWriting (λ x. text_of (g.T.Spelled.spelled x)) l.initial.text.items l.text.items l.items l.item-index
