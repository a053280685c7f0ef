-- The nodes of the rows are those of the columns.
use Rattle.std.proofs.Common.{◌∙◌, length, sym, ap}
use Rattle.gm_machine.specs.Fields.{HeldFields, columns_of}
use Rattle.gm_machine.proofs.FieldRows.{length-by_node}
use Rattle.gm_machine.proofs.fields.Fields.len.Goals as goal

pub returns : goal.returns
returns c = sym (length-by_node c.self.inside.columns.nodes (columns_of c.self.inside.columns)) ∙ ap (λ (h : HeldFields). length h.rows) c.self.view_is
