use Rattle.std.proofs.Common.{◌∙◌, ◌∷◌, [], ◌++◌, List, ap, map, sym, take}
use Rattle.std.specs.Prelude.{slice_range}
use Rattle.std.proofs.lemmas.List.{map-append, map_more}
use Rattle.gm_value.specs.declared.values.Value.{Value}
use Rattle.gm_columns.specs.Columns.{TypedRow}
use Rattle.gm_batch_handlers.specs.Handling.{all_values}
use Rattle.gm_batch_handlers.proofs.handlers.columns_between.Goals as goal

pub loop-column-preserved : goal.loop-column-preserved
loop-column-preserved c =
    let n = c.loop-column.column-index in
    let values = c.args.values.now in
    let f : TypedRow → List Value = λ column. slice_range column.values c.args.from c.args.to in
    ap all_values c.in_ok-push.ensures.items
    ∙ map-append (λ (column : TypedRow). column.values) c.loop-column.columns.items (c.in_ok-column_between.field-0 ∷ [])
    ∙ (λ i. c.loop-column.invariant i ++ c.in_ok-column_between.ensures i ∷ [])
    ∙ ap (λ v. map f (take n values) ++ f v ∷ []) c.column-item.is
    ∙ sym (map_more f values n c.column-item.result c.loop-column-test.true)
