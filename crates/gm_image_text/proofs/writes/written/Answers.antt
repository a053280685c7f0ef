use Rattle.std.proofs.Common.{[], ◌≡◌, ◌++◌, ap, ◌∙◌}
use Rattle.gm_image.specs.Views.{program}
use Rattle.gm_image_text.specs.Lines.{text_of}
use Rattle.gm_image_text.specs.Spelling.{opening_lines, middle_lines, closing_lines}
use Rattle.gm_image_text.proofs.Writing.{two_texts}
use Rattle.gm_image_text.proofs.writes.written.Goals as goal

pub returns : goal.returns
returns c =
    let p = program c.args.image.now in
    let t1 = c.put_opening.new.text.items in
    let t2 = c.put_middle.new.text.items in
    let t3 = c.put_closing.new.text.items in
    let first : t1 ≡ [] ++ text_of (opening_lines p) = c.in_ok-put_opening.ensures ∙ ap (λ v. v ++ text_of (opening_lines p)) c.new-text.ensures.items in
    two_texts [] t1 t3 (opening_lines p) (middle_lines p ++ closing_lines p) first (two_texts t1 t2 t3 (middle_lines p) (closing_lines p) c.in_ok-put_middle.ensures c.in_ok-put_closing.ensures)
