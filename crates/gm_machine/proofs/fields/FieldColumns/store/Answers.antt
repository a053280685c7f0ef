-- The node's new values stand in all rows.
use Rattle.std.proofs.Common.{◌≡◌, ◌∙◌, length, map, sym, ap, subst}
use Rattle.std.proofs.lemmas.List.{length-map}
use Rattle.gm_columns.specs.Cells.{values_of}
use Rattle.gm_machine.specs.Fields.{by_node, AreFull}
use Rattle.gm_machine.proofs.FieldRows.{length-with_row, full-with_row, by_node-with_row}
use Rattle.gm_machine.proofs.fields.FieldColumns.store.Goals as goal

pub returns-clause-full : goal.returns-clause-full
returns-clause-full c =
    let old = c.args.self.now.rows.items in
    let new = c.store.new.rows.items in
    record {
      wide = sym (length-map new values_of) ∙ ap length c.in_ok-store.ensures ∙ length-with_row (map values_of old) c.args.node c.args.from.now ∙ length-map old values_of ∙ c.requires.full.wide;
      full = subst (AreFull c.args.self.now.nodes) (sym c.in_ok-store.ensures) (full-with_row c.args.self.now.nodes c.args.node (map values_of old) c.args.from.now c.requires.full.full);
    }

pub returns-clause-fields : goal.returns-clause-fields
returns-clause-fields c =
    let old = c.args.self.now.rows.items in
    let long : length c.args.from.now ≡ length (map values_of old) = sym (length-map old values_of ∙ c.requires.full.wide) in
    ap (by_node c.args.self.now.nodes) c.in_ok-store.ensures
    ∙ by_node-with_row c.args.self.now.nodes c.args.node (map values_of old) c.args.from.now c.requires.full.full c.requires.node long
