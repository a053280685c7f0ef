use Rattle.std.proofs.Common.{◌<◌, ◌≡◌, suc, length, sym, ◌∙◌, arith}
use Rattle.std.proofs.lemmas.Result.{err_from_is_err_and}
use Rattle.gm_image_text.specs.Reading.{words_left}
use Rattle.gm_image_text.specs.Tables.{types, row_in}
use Rattle.gm_image_text.proofs.Shorter.{types_none, types_more, types_refuse, left_some, word_shorter}
use Rattle.gm_image_text.proofs.rows.types.Goals as goal

pub values-init : goal.values-init
values-init c = rw c.new-values.ensures.items (types_none (words_left c.args.words))

pub returns-in_err-value : goal.returns-in_err-value
returns-in_err-value c =
    let p = err_from_is_err_and c.from_residual.result c.from_residual.ensures.1 in
    let some : 0 < length (words_left c.values.rest) = left_some c.values.rest (sym c.is_some.ensures ∙ c.values-test.true) in
    rw (p.1, p.2) (types_refuse c.values.values.items (words_left c.values.rest) (words_left c.args.words) _ some c.values.invariant c.in_err-value.ensures)

pub values-smaller : goal.values-smaller
values-smaller c =
    let one : length (words_left c.values.rest) ≡ suc (length (words_left c.in_ok-value.behind)) = word_shorter (row_in types) (words_left c.values.rest) (c.in_ok-value.value, words_left c.in_ok-value.behind) c.in_ok-value.ensures in
    omega (arith, one)

pub values-preserved : goal.values-preserved
values-preserved c =
    types_more c.values.values.items c.push.new.self.items (words_left c.values.rest) (words_left c.args.words) (c.in_ok-value.value, words_left c.in_ok-value.behind)
    c.values.invariant c.in_ok-value.ensures c.in_ok-push.ensures.items
