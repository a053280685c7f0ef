use Rattle.gm_image_text.specs.Reading.{result_row, words_left}
use Rattle.gm_image_text.proofs.Judging.{judged_gives}
use Rattle.gm_image_text.proofs.reads.result_line.Goals as goal

pub returns : goal.returns
returns c = judged_gives (λ x. x) result_row c.args.text.now c.in_ok-line.rest.now (words_left c.in_ok-line.line) c.in_ok-line.ensures c.result_row.result c.judged.result c.result_row.ensures c.judged.ensures
