use Rattle.std.proofs.Common.{◌∙◌, ap, arith, map, set, sym}
use Rattle.std.proofs.lemmas.List.{map-set}
use Rattle.gm_columns.specs.Cells.{values_of}
use Rattle.gm_kernels.specs.Pointwise.{written_at}
use Rattle.gm_batch_steps.proofs.LineLaws.{get-map}
use Rattle.gm_batch_steps.proofs.changes.write_field.Goals as goal

pub returns-in_ok-write_rows : goal.returns-in_ok-write_rows
returns-in_ok-write_rows c =
    let fields = c.args.fields.now.items in
    map-set values_of fields c.args.field c.write_rows.new.cells
    ∙ ap (set (map values_of fields) c.args.field) (c.in_ok-write_rows.ensures
    ∙ ap (λ xs. written_at xs c.args.rows.now c.args.column.now.values)
    (ap values_of c.index_mut-cells.ensures.value ∙ sym (get-map values_of fields c.args.field _ _ (omega (arith, c.if-field-len.true, c.len.ensures, c.args.fields.now.ok)))))
