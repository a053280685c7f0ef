-- The nodes of the rows are those of the columns.
use Rattle.std.proofs.Common.{◌≡◌, ◌∙◌, length, sym, ap, arith}
use Rattle.gm_machine.specs.Fields.{HeldFields, columns_of}
use Rattle.gm_machine.proofs.FieldRows.{length-by_node}
use Rattle.gm_machine.proofs.fields.Fields.get.Goals as goal

pub get-requires-clause-node : goal.get-requires-clause-node
get-requires-clause-node c =
    let long : c.self.inside.columns.nodes ≡ length c.args.self.now.rows =
    sym (length-by_node c.self.inside.columns.nodes (columns_of c.self.inside.columns)) ∙ ap (λ (h : HeldFields). length h.rows) c.self.view_is in
    omega (arith, long, c.requires)
