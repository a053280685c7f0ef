use Rattle.std.proofs.Common.{length}
use Rattle.gm_image_text.specs.Reading.{words_left}
use Rattle.gm_image_text.proofs.Shorter.{TypesGo}
use Rattle.gm_image_text.proofs.rows.types.Given as goal

abbrev pub invariant-values : goal.invariant-values
invariant-values l = TypesGo l.values.items (words_left l.rest) (words_left l.words)

abbrev pub decreases-values : goal.decreases-values
decreases-values l = length (words_left l.rest)
