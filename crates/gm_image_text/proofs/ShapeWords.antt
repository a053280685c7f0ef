-- The words of an expression, by its shape.
use Rattle.std.proofs.Common.{◌≡◌, ◌++◌, refl}
use Rattle.gm_image.specs.declared.shapes.One.{One}
use Rattle.gm_image.specs.declared.shapes.One.TheVariants as one
use Rattle.gm_image.specs.declared.shapes.Two.{Two}
use Rattle.gm_image.specs.declared.shapes.Two.TheVariants as two
use Rattle.gm_image.specs.Term.{Term}
use Rattle.gm_image.specs.Shapes.{one_term, two_term}
use Rattle.gm_image_text.specs.Spelling.{term_words}
use Rattle.gm_image_text.specs.ShapeWords.{one_words, two_words}

pub words_one : (op : One) (a : Term) → term_words (one_term op a) ≡ one_words op ++ term_words a
words_one one.NodeAt a = refl
words_one (one.Live place) a = refl
words_one (one.Op op place) a = refl

pub words_two : (op : Two) (a b : Term) → term_words (two_term op a b) ≡ two_words op ++ (term_words a ++ term_words b)
words_two (two.Op op place) a b = refl
words_two two.And a b = refl
words_two two.Or a b = refl
