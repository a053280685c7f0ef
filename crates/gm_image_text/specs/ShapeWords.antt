-- The words of an operation in front of its operands.
use Rattle.std.specs.Prelude.{List, [], ◌∷◌, codes}
use Rattle.std.specs.Fmt.{decimal}
use Rattle.gm_image.specs.declared.shapes.One.{One}
use Rattle.gm_image.specs.declared.shapes.One.TheVariants as one
use Rattle.gm_image.specs.declared.shapes.Two.{Two}
use Rattle.gm_image.specs.declared.shapes.Two.TheVariants as two
use Rattle.gm_image_text.specs.Lines.{Word}
use Rattle.gm_image_text.specs.Spelling.{op1_word, op2_word, place_words}

-- of one operand
abbrev pub one_words : One → List Word
one_words one.NodeAt = codes "node" ∷ []
one_words (one.Live place) = codes "live" ∷ decimal place ∷ []
one_words (one.Op op place) = op1_word op ∷ place_words place

-- of two operands
abbrev pub two_words : Two → List Word
two_words (two.Op op place) = op2_word op ∷ place_words place
two_words two.And = codes "&&" ∷ []
two_words two.Or = codes "||" ∷ []
