use Rattle.gm_image_text.specs.Reading.{first_row, words_left}
use Rattle.gm_image_text.proofs.Judging.{judged_gives}
use Rattle.gm_image_text.proofs.reads.first_line.Goals as goal

pub returns : goal.returns
returns c = judged_gives (λ x. x) first_row c.args.text.now c.in_ok-line.rest.now (words_left c.in_ok-line.line) c.in_ok-line.ensures c.first_row.result c.judged.result c.first_row.ensures c.judged.ensures
