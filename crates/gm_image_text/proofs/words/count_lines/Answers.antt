use Rattle.std.proofs.Common.{◌≡◌, ◌<◌, length, arith, sym, rules}
use Rattle.std.specs.Prelude.{None}
use Rattle.gm_image_text.specs.Lines.{lines_of}
use Rattle.gm_image_text.specs.Reading.{cut_at}
use Rattle.gm_image_text.proofs.Cutting.{last_line}
use Rattle.gm_image_text.proofs.words.count_lines.Goals as goal

pub returns-else-is_empty : goal.returns-else-is_empty
returns-else-is_empty c =
    let no : cut_at (lines_of c.lines.rest.now) ≡ None = sym c.in_default.ensures.cut in
    let some : 0 < length c.lines.rest.now = search rules in
    omega (arith, last_line c.lines.rest.now no some, c.lines.invariant.all)
