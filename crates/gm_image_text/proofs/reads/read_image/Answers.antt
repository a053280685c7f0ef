use Rattle.std.proofs.Common.{◌≤◌, length, arith, sym, ◌∙◌}
use Rattle.gm_image.specs.Views.{program}
use Rattle.gm_image_text.specs.Lines.{lines_of}
use Rattle.gm_image_text.proofs.Binds.{ok_is, never}
use Rattle.gm_image_text.proofs.Whole.{text_ok, text_again, fault_within, fault_is_line, few_lines}
use Rattle.gm_image_text.proofs.reads.read_image.Goals as goal

pub overflow_sub-before : goal.overflow_sub-before
overflow_sub-before c =
    let within : length (lines_of c.in-Err-Bad.rest.now) ≤ length (lines_of c.args.text.now) = fault_within (lines_of c.args.text.now) (lines_of c.in-Err-Bad.rest.now) (rw c.in-Err-Bad.field-0-is at c.in-Err-Bad.ensures) in
    omega (arith, within, c.count_lines.ensures, c.count_lines-in-Err-Bad.ensures)

pub overflow_cast-result : goal.overflow_cast-result
overflow_cast-result c =
    let few : length (lines_of c.args.text.now) ≤ length c.args.text.now = few_lines c.args.text.now in
    omega (arith, few, c.count_lines.ensures)

pub overflow_add-result : goal.overflow_add-result
overflow_add-result c =
    let few : length (lines_of c.args.text.now) ≤ length c.args.text.now = few_lines c.args.text.now in
    omega (arith, few, c.count_lines.ensures)

pub returns-in-Ok-clause-image : goal.returns-in-Ok-clause-image
returns-in-Ok-clause-image c = text_ok c.args.text.now (program c.in-Ok.image) c.in-Ok.ensures

pub returns-in-Ok-clause-only : goal.returns-in-Ok-clause-only
returns-in-Ok-clause-only c = λ p h short. ok_is (program c.in-Ok.image) p (sym c.in-Ok.ensures ∙ text_again c.args.text.now p h)

pub returns-in-Err-Bad-clause-only : goal.returns-in-Err-Bad-clause-only
returns-in-Err-Bad-clause-only c = λ p h short. never (lines_of c.in-Err-Bad.rest.now) p (sym (rw c.in-Err-Bad.field-0-is at c.in-Err-Bad.ensures) ∙ text_again c.args.text.now p h)

pub returns-in-Err-Bad-clause-bad_text : goal.returns-in-Err-Bad-clause-bad_text
returns-in-Err-Bad-clause-bad_text c = λ line e.
    fault_is_line (lines_of c.args.text.now) (lines_of c.in-Err-Bad.rest.now) _ line (rw c.in-Err-Bad.field-0-is at c.in-Err-Bad.ensures) (omega (arith, c.count_lines.ensures, c.count_lines-in-Err-Bad.ensures)) e
