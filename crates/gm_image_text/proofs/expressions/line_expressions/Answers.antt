use Rattle.std.proofs.Common.{◌<◌, length, map, sym, ◌∙◌}
use Rattle.std.proofs.lemmas.Result.{err_from_is_err_and}
use Rattle.gm_image.specs.Views.{term}
use Rattle.gm_image_text.specs.Reading.{words_left, expression_at}
use Rattle.gm_image_text.proofs.Shorter.{left_some, expression_shorter}
use Rattle.gm_image_text.proofs.ToTheEnd.{goes_none, goes_more, goes_refuse}
use Rattle.gm_image_text.proofs.expressions.line_expressions.Goals as goal

pub values-init : goal.values-init
values-init c = rw c.new-values.ensures.items (goes_none expression_at (words_left c.args.words))

pub returns-in_err-value : goal.returns-in_err-value
returns-in_err-value c =
    let p = err_from_is_err_and c.from_residual.result c.from_residual.ensures.1 in
    let some : 0 < length (words_left c.values.rest) = left_some c.values.rest (sym c.is_some.ensures ∙ c.values-test.true) in
    rw (p.1, p.2) (goes_refuse expression_at (map term c.values.values.items) (words_left c.values.rest) (words_left c.args.words) _ some c.values.invariant c.in_err-value.ensures)

pub values-smaller : goal.values-smaller
values-smaller c = expression_shorter (words_left c.values.rest) (term c.in_ok-value.value, words_left c.in_ok-value.behind) c.in_ok-value.ensures

pub values-preserved : goal.values-preserved
values-preserved c =
    goes_more expression_at term c.values.values.items c.push.new.self.items c.in_ok-value.value (words_left c.values.rest) (words_left c.in_ok-value.behind) (words_left c.args.words)
    (expression_shorter (words_left c.values.rest) (term c.in_ok-value.value, words_left c.in_ok-value.behind) c.in_ok-value.ensures)
    c.values.invariant c.in_ok-value.ensures c.in_ok-push.ensures.items
