use Rattle.std.specs.Prelude.{[], ◌∷◌}
use Rattle.gm_image_text.specs.Lines.{led}
use Rattle.gm_image_text.specs.Spelling.{type_word}
use Rattle.gm_image_text.proofs.Writing.{IsWriting}
use Rattle.gm_image_text.proofs.put_words.put_types.Given as goal

abbrev pub invariant-loop-vtype : goal.invariant-loop-vtype
invariant-loop-vtype l = IsWriting (λ t. led (type_word t ∷ [])) l.initial.text.items l.text.items l.types l.vtype-index
