-- The value of one more column.
use Rattle.std.proofs.Common.{◌≡◌, ◌∙◌, ◌++◌, ◌∷◌, [], None, ap, get_or, sym, take}
use Rattle.std.proofs.lemmas.List.{get_or_read}
use Rattle.std.proofs.lemmas.Option.{get_or_from_slice_get}
use Rattle.gm_value.specs.declared.values.Value.TheVariants.{At}
use Rattle.gm_columns.specs.Columns.{TypedRow}
use Rattle.gm_message_columns.specs.MessageTables.{row_values}
use Rattle.gm_message_columns.proofs.TableLemmas.{row-more}
use Rattle.gm_message_columns.proofs.growing.load_row.Goals as goal

pub loop-column-preserved : goal.loop-column-preserved
loop-column-preserved c =
    let k = c.loop-column.column-index in
    let all = c.args.columns.now in
    let row = c.args.row in
    let column : TypedRow = c.column-item.result in
    let read : column ≡ get_or all k column = get_or_read all k column c.loop-column-test.true c.column-item.is column in
    let value = get_or_from_slice_get column.values row c.get.result (At None) c.get.ensures.value in
    c.in_ok-push.ensures.items
    ∙ ap (λ l. l ++ c.get.result ∷ []) c.loop-column.invariant
    ∙ ap (λ v. row_values (take k all) row ++ v ∷ []) (sym value ∙ ap (λ (x : TypedRow). get_or x.values row (At None)) read)
    ∙ sym (row-more all row k column c.loop-column-test.true)
