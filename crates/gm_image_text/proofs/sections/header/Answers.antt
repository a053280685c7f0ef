use Rattle.gm_image_text.specs.Reading.{count_row, words_left}
use Rattle.gm_image_text.proofs.Judging.{judged_gives}
use Rattle.gm_image_text.proofs.sections.header.Goals as goal

pub returns : goal.returns
returns c = judged_gives (λ x. x) (count_row c.args.word.now) c.args.text.now c.in_ok-line.rest.now (words_left c.in_ok-line.line) c.in_ok-line.ensures c.count_row.result c.judged.result c.count_row.ensures c.judged.ensures
