use Rattle.gm_image.specs.Views.{line}
use Rattle.gm_image_text.specs.Sections.{vertex_at}
use Rattle.gm_image_text.proofs.Filling.{Goes}
use Rattle.gm_image_text.proofs.sections.vertex_lines.Given as goal

abbrev pub invariant-loop-number : goal.invariant-loop-number
invariant-loop-number l = Goes line (vertex_at l.version) l.count l._number l.items.items l.rest l.text
