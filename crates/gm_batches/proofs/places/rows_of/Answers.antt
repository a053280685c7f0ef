use Rattle.std.proofs.Common.{◌∙◌, ap, sym, None, map}
use Rattle.gm_value.specs.declared.values.Value.TheVariants.{At}
use Rattle.gm_columns.specs.Columns.{TypedRow}
use Rattle.gm_machine.specs.Expressions.{value_at}
use Rattle.gm_batches.specs.NodeBatches.{row_count, rows_in}
use Rattle.gm_batches.proofs.LeafLaws.{all_rows}
use Rattle.gm_batches.proofs.ColumnLaws.{if_ok}
use Rattle.gm_batches.proofs.places.rows_of.Goals as goal

pub returns-in-All-clause-values : goal.returns-in-All-clause-values
returns-in-All-clause-values c =
    let b = c.args.batch.now in
    let values = c.args.column.now.values in
    if_ok c.copy.result
    (λ copy same. ap (λ (column : TypedRow). column.values) same
    ∙ all_rows values (row_count b) (At None) c.requires.column
    ∙ ap (λ r. map (λ row. value_at values row) (rows_in b r)) (sym c.in-All.is))
    c.copy.ensures

pub returns-in-At-clause-values : goal.returns-in-At-clause-values
returns-in-At-clause-values c =
    let b = c.args.batch.now in
    if_ok c.picked.result
    (λ picked each. each (At None) ∙ ap (λ r. map (λ row. value_at c.args.column.now.values row) (rows_in b r)) (sym c.in-At.is))
    c.picked.ensures.values
