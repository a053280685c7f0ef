-- Columns with no row.
use Rattle.std.proofs.Common.{◌∙◌, ap}
use Rattle.gm_message_columns.specs.MessageTables.{MessageTable}
use Rattle.gm_message_columns.proofs.GrowthLemmas.{empty-full, empty-sort}
use Rattle.gm_message_columns.proofs.columns.MessageColumns.empty_as.Goals as goal

pub invariant_of-result : goal.invariant_of-result
invariant_of-result c = empty-full c.new.result.items c.in_ok-empty_columns.field-0.items c.deref.result.now c.new.ensures.items c.in_ok-empty_columns.ensures

pub returns-clause-sort : goal.returns-clause-sort
returns-clause-sort c =
    empty-sort c.other.inside.kind c.new.result.items c.in_ok-empty_columns.field-0.items c.deref.result.now c.args.other.now (ap (λ (t : MessageTable). t.kind) c.other.view_is)
    (c.deref.ensures.value ∙ ap (λ (t : MessageTable). t.columns) c.other.view_is) c.in_ok-empty_columns.ensures
