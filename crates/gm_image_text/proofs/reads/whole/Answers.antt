use Rattle.std.proofs.Common.{◌<◌, length, rules}
use Rattle.std.proofs.lemmas.Result.{err_from_is_err_and}
use Rattle.gm_image_text.specs.Lines.{lines_of}
use Rattle.gm_image_text.specs.Seen.{opening_seen, middle_seen, closing_seen}
use Rattle.gm_image_text.proofs.Ends.{left_over, opening_refused, middle_refused, closing_refused}
use Rattle.gm_image_text.proofs.reads.whole.Goals as goal

pub returns-then-not-is_empty : goal.returns-then-not-is_empty
returns-then-not-is_empty c =
    let some : 0 < length c.in_ok-closing.rest.now = search rules in
    left_over (lines_of c.args.text.now) (lines_of c.in_ok-opening.rest.now) (lines_of c.in_ok-middle.rest.now) c.in_ok-closing.rest.now
    (opening_seen c.in_ok-opening.opening) (middle_seen c.in_ok-middle.middle) (closing_seen c.in_ok-closing.closing)
    c.in_ok-opening.ensures c.in_ok-middle.ensures c.in_ok-closing.ensures some

pub returns-in_err-opening : goal.returns-in_err-opening
returns-in_err-opening c =
    let p = err_from_is_err_and c.from_residual.result c.from_residual.ensures.1 in
    rw (p.1, p.2) (opening_refused (lines_of c.args.text.now) _ c.in_err-opening.ensures)

pub returns-in_err-middle : goal.returns-in_err-middle
returns-in_err-middle c =
    let p = err_from_is_err_and c.from_residual-in_err-middle.result c.from_residual-in_err-middle.ensures.1 in
    rw (p.1, p.2) (middle_refused (lines_of c.args.text.now) (lines_of c.in_ok-opening.rest.now) (opening_seen c.in_ok-opening.opening) _ c.in_ok-opening.ensures c.in_err-middle.ensures)

pub returns-in_err-closing : goal.returns-in_err-closing
returns-in_err-closing c =
    let p = err_from_is_err_and c.from_residual-in_err-closing.result c.from_residual-in_err-closing.ensures.1 in
    rw (p.1, p.2) (closing_refused (lines_of c.args.text.now) (lines_of c.in_ok-opening.rest.now) (lines_of c.in_ok-middle.rest.now) (opening_seen c.in_ok-opening.opening) (middle_seen c.in_ok-middle.middle) _ c.in_ok-opening.ensures c.in_ok-middle.ensures c.in_err-closing.ensures)
