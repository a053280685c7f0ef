use Rattle.gm_image_text.specs.Reading.{words_left}
use Rattle.gm_image_text.proofs.Judging.{judged_gives}
use Rattle.gm_image_text.proofs.sections.row.Goals as goal

pub returns : goal.returns
returns g c = judged_gives g.R.Row.seen g.R.Row.row_at c.args.text.now c.in_ok-line.rest.now (words_left c.in_ok-line.line) c.in_ok-line.ensures c.read.result c.judged.result c.read.ensures c.judged.ensures
