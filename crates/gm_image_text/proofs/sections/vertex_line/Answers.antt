use Rattle.gm_image.specs.Views.{line}
use Rattle.gm_image_text.specs.Reading.{vertex_row, words_left}
use Rattle.gm_image_text.proofs.Judging.{judged_gives}
use Rattle.gm_image_text.proofs.sections.vertex_line.Goals as goal

pub returns : goal.returns
returns c = judged_gives line (vertex_row c.args.version) c.args.text.now c.in_ok-words.rest.now (words_left c.in_ok-words.words) c.in_ok-words.ensures c.vertex_row.result c.judged.result c.vertex_row.ensures c.judged.ensures
