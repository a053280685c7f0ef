use Rattle.gm_image.specs.Views.{handler}
use Rattle.gm_image_text.specs.Sections.{handler_at}
use Rattle.gm_image_text.proofs.Filling.{Goes}
use Rattle.gm_image_text.proofs.sections.handlers.Given as goal

abbrev pub invariant-loop-number : goal.invariant-loop-number
invariant-loop-number l = Goes handler (handler_at l.version) l.count l._number l.items.items l.rest l.text
