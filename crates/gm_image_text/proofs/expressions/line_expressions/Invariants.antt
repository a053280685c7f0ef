use Rattle.std.proofs.Common.{length, map}
use Rattle.gm_image.specs.Views.{term}
use Rattle.gm_image_text.specs.Reading.{words_left, expression_at}
use Rattle.gm_image_text.proofs.ToTheEnd.{Goes}
use Rattle.gm_image_text.proofs.expressions.line_expressions.Given as goal

abbrev pub invariant-values : goal.invariant-values
invariant-values l = Goes expression_at (map term l.values.items) (words_left l.rest) (words_left l.words)

abbrev pub decreases-values : goal.decreases-values
decreases-values l = length (words_left l.rest)
