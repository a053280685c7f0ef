use Rattle.gm_image.specs.Views.{block}
use Rattle.gm_image_text.specs.Sections.{block_at}
use Rattle.gm_image_text.proofs.Filling.{Goes}
use Rattle.gm_image_text.proofs.sections.block_list.Given as goal

abbrev pub invariant-loop-number : goal.invariant-loop-number
invariant-loop-number l = Goes block (block_at l.version) l.count l._number l.items.items l.rest l.text
