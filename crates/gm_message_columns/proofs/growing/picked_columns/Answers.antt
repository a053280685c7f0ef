-- One more column has been picked.
use Rattle.std.proofs.Common.{◌≡◌, ◌∙◌, ◌++◌, ◌∷◌, [], None, ap, get_or, map, sym}
use Rattle.std.proofs.lemmas.List.{get_or_read}
use Rattle.gm_value.specs.declared.values.Value.TheVariants.{At}
use Rattle.gm_columns.specs.Columns.{TypedRow}
use Rattle.gm_machine.specs.Expressions.{value_at}
use Rattle.gm_message_columns.proofs.TableLemmas.{picked-more}
use Rattle.gm_message_columns.proofs.growing.picked_columns.Goals as goal

pub loop-other-preserved : goal.loop-other-preserved
loop-other-preserved c =
    let k = c.loop-other.other-index in
    let all = c.args.others.now in
    let rows = c.args.rows.now in
    let column : TypedRow = c.other-item.result in
    let read : column ≡ get_or all k column = get_or_read all k column c.loop-other-test.true c.other-item.is column in
    c.in_ok-push.ensures.items
    ∙ ap (λ l. l ++ c.in_ok-picked.field-0 ∷ []) c.loop-other.invariant
    ∙ sym (picked-more all rows k column c.in_ok-picked.field-0 c.loop-other-test.true (c.in_ok-picked.ensures.vtype ∙ ap (λ (x : TypedRow). x.vtype) read)
    (c.in_ok-picked.ensures.values (At None) ∙ ap (λ (x : TypedRow). map (value_at x.values) rows) read))
