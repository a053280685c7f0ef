-- The nodes of the rows are those of the columns.
use Rattle.std.proofs.Common.{◌≡◌, ◌∙◌, length, sym, ap, arith}
use Rattle.gm_machine.specs.declared.fields.FieldColumns.{FieldColumns}
use Rattle.gm_machine.specs.Fields.{HeldFields, columns_of}
use Rattle.gm_machine.proofs.FieldRows.{length-by_node}
use Rattle.gm_machine.proofs.fields.Fields.store.Goals as goal

pub store-requires-clause-node : goal.store-requires-clause-node
store-requires-clause-node c =
    let long : c.replace-columns.result.nodes ≡ length c.args.self.now.rows =
    ap (λ (f : FieldColumns). f.nodes) c.replace-columns.ensures.value
    ∙ sym (length-by_node c.self.inside.columns.nodes (columns_of c.self.inside.columns))
    ∙ ap (λ (h : HeldFields). length h.rows) c.self.view_is in
    omega (arith, long, c.requires.place)
