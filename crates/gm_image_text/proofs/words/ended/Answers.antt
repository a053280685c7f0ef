use Rattle.std.proofs.Common.{ap, ◌∙◌}
use Rattle.gm_image_text.specs.Reading.{ended_at, words_left}
use Rattle.gm_image_text.proofs.Spelled.{not_ended}
use Rattle.gm_image_text.proofs.words.ended.Goals as goal

pub returns-in-Some : goal.returns-in-Some
returns-in-Some c = ap (λ w. ended_at (words_left w)) c.in-Some.is ∙ not_ended c.in-Some.field-0.now
