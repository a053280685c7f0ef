-- A row is written where it stands.
use Rattle.std.proofs.Common.{◌∙◌, List, [], map, set, sym, ap}
use Rattle.std.proofs.lemmas.List.{map-set}
use Rattle.gm_columns.specs.declared.cells.Cells.{Cells}
use Rattle.gm_columns.specs.Cells.{values_of}
use Rattle.gm_machine.proofs.FieldRows.{map-read}
use Rattle.gm_machine.proofs.fields.write.Goals as goal

pub returns : goal.returns
returns c =
    let rows : List Cells = c.args.rows.now.items in
    map-set values_of rows c.args.slot c.set.new.self
    ∙ ap (set (map values_of rows) c.args.slot)
    (c.in_ok-set.ensures
    ∙ ap (λ vs. set vs c.args.node c.args.value)
    (sym (map-read values_of rows c.args.slot c.index_mut-row.result.now [] c.requires.slot c.index_mut-row.ensures.value)))
