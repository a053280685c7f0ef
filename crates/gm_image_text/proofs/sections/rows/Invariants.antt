use Rattle.gm_image_text.specs.Sections.{row_at}
use Rattle.gm_image_text.proofs.Filling.{Goes}
use Rattle.gm_image_text.proofs.sections.rows.Given as goal

abbrev pub invariant-loop-number : goal.invariant-loop-number
invariant-loop-number g l = Goes g.R.Row.seen (row_at g.R.Row.row_at) l.count l._number l.items.items l.rest l.text
