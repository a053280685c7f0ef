-- The nodes of the rows are those of the columns.
use Rattle.std.proofs.Common.{◌≡◌, ◌∙◌, length, sym, ap, subst}
use Rattle.gm_machine.specs.Fields.{HeldFields, by_node, AreFull, columns_of}
use Rattle.gm_machine.proofs.FieldRows.{length-by_node}
use Rattle.gm_machine.proofs.fields.Fields.into_columns.Goals as goal

pub returns-clause-full : goal.returns-clause-full
returns-clause-full c =
    let long : c.self.inside.columns.nodes ≡ length c.args.self.rows =
    sym (length-by_node c.self.inside.columns.nodes (columns_of c.self.inside.columns)) ∙ ap (λ (h : HeldFields). length h.rows) c.self.view_is in
    subst (λ n. AreFull n (columns_of c.self.inside.columns)) long c.self.invariant.full

pub returns-clause-rows : goal.returns-clause-rows
returns-clause-rows c =
    let long : c.self.inside.columns.nodes ≡ length c.args.self.rows =
    sym (length-by_node c.self.inside.columns.nodes (columns_of c.self.inside.columns)) ∙ ap (λ (h : HeldFields). length h.rows) c.self.view_is in
    sym (ap (λ (h : HeldFields). h.rows) c.self.view_is) ∙ ap (λ n. by_node n (columns_of c.self.inside.columns)) long
