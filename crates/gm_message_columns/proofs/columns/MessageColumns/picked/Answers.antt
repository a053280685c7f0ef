-- Some rows of the columns.
use Rattle.std.proofs.Common.{List, ◌∙◌, ap, map}
use Rattle.std.specs.Prelude.{slice_index}
use Rattle.gm_columns.specs.Columns.{TypedRow}
use Rattle.gm_message_columns.specs.MessageTables.{picked_rows}
use Rattle.gm_message_columns.proofs.GrowthLemmas.{picked-long, picked-rows}
use Rattle.gm_message_columns.proofs.columns.MessageColumns.picked.Goals as goal

pub invariant_of-result : goal.invariant_of-result
invariant_of-result c =
    picked-long c.deref.result.now c.in_ok-picked_nodes.field-0.items c.args.rows.now c.deref-2.result.now c.in_ok-picked_columns.field-0.items c.in_ok-picked_nodes.ensures c.in_ok-picked_columns.ensures

pub returns : goal.returns
returns c =
    picked-rows c.self.inside.kind c.self.inside.to.items c.in_ok-picked_nodes.field-0.items c.args.rows.now c.self.inside.values.items c.in_ok-picked_columns.field-0.items c.args.self.now
    c.self.view_is (c.in_ok-picked_nodes.ensures ∙ ap (λ (l : List _). map (slice_index l) c.args.rows.now) c.deref.ensures.value)
    (c.in_ok-picked_columns.ensures ∙ ap (λ (l : List TypedRow). picked_rows l c.args.rows.now) c.deref-2.ensures.value)
