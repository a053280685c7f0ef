-- The node's values in all rows are its fields.
use Rattle.std.proofs.Common.{◌∙◌, [], map, sym, ap}
use Rattle.gm_columns.specs.Cells.{values_of}
use Rattle.gm_machine.specs.Fields.{columns_of}
use Rattle.gm_machine.specs.Machine.{row_at}
use Rattle.gm_machine.proofs.FieldRows.{get_or-by_node}
use Rattle.gm_machine.proofs.fields.FieldColumns.load.Goals as goal

pub returns-then-len : goal.returns-then-len
returns-then-len c =
    c.reload.ensures
    ∙ ap (λ rows. row_at (map values_of rows) c.args.node) c.deref.ensures.value
    ∙ sym (get_or-by_node c.args.self.now.nodes (columns_of c.args.self.now) c.args.node [] c.requires.node)

pub returns : goal.returns
returns c =
    c.in_ok-load.ensures
    ∙ ap (λ rows. row_at (map values_of rows) c.args.node) c.deref-2.ensures.value
    ∙ sym (get_or-by_node c.args.self.now.nodes (columns_of c.args.self.now) c.args.node [] c.requires.node)
