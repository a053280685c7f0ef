-- One more row stands behind the others.
use Rattle.std.proofs.Common.{◌∙◌, ap}
use Rattle.gm_message_columns.specs.MessageTables.{MessageTable, values_in_row}
use Rattle.gm_message_columns.proofs.GrowthLemmas.{grown-sort, row-full, row-message}
use Rattle.gm_message_columns.proofs.columns.MessageColumns.add_row.Goals as goal

pub invariant_of-self : goal.invariant_of-self
invariant_of-self c =
    row-full c.self.inside.kind c.self.inside.to.items c.push_message.new.nodes.items c.self.inside.values.items c.push_message.new.columns.items c.deref.result.now c.args.to c.args.row c.args.self.now c.args.other.now
    c.self.view_is (c.deref.ensures.value ∙ ap (λ (t : MessageTable). t.columns) c.other.view_is) c.requires.sort c.self.invariant c.in-Ok.ensures.nodes c.in-Ok.ensures.columns

pub returns-in-Ok-clause-sort : goal.returns-in-Ok-clause-sort
returns-in-Ok-clause-sort c =
    grown-sort c.self.inside.kind c.self.inside.to.items c.push_message.new.nodes.items c.self.inside.values.items c.push_message.new.columns.items (values_in_row c.deref.result.now c.args.row) c.args.self.now c.args.other.now
    c.self.view_is c.requires.sort c.in-Ok.ensures.columns

pub returns-in-Ok-clause-added : goal.returns-in-Ok-clause-added
returns-in-Ok-clause-added c =
    row-message c.self.inside.kind c.self.inside.to.items c.push_message.new.nodes.items c.self.inside.values.items c.push_message.new.columns.items c.deref.result.now c.args.to c.args.row c.args.self.now c.args.other.now
    c.self.view_is (c.deref.ensures.value ∙ ap (λ (t : MessageTable). t.columns) c.other.view_is) c.requires.sort c.self.invariant c.in-Ok.ensures.nodes c.in-Ok.ensures.columns
