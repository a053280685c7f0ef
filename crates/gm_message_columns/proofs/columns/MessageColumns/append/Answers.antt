-- The rows of others stand behind these.
use Rattle.std.proofs.Common.{◌∙◌, List, ap, length, subst, sym}
use Rattle.gm_columns.specs.Columns.{TypedRow}
use Rattle.gm_message_columns.specs.MessageTables.{HaveRows, MessageTable, all_values}
use Rattle.gm_message_columns.proofs.GrowthLemmas.{all-full, all-messages, grown-sort}
use Rattle.gm_message_columns.proofs.columns.MessageColumns.append.Goals as goal

pub invariant_of-self : goal.invariant_of-self
invariant_of-self c =
    all-full c.self.inside.kind c.self.inside.to.items c.append_messages.new.nodes.items c.deref.result.now c.self.inside.values.items c.append_messages.new.columns.items c.deref-2.result.now c.args.self.now c.args.more.now
    c.self.view_is (c.deref-2.ensures.value ∙ ap (λ (t : MessageTable). t.columns) c.more.view_is) c.requires c.self.invariant
    (subst (λ (l : List TypedRow). HaveRows (length c.deref.result.now) l) (sym c.deref-2.ensures.value) (subst (λ (l : List _). HaveRows (length l) c.more.inside.values.items) (sym c.deref.ensures.value) c.more.invariant))
    c.in-Ok.ensures.nodes c.in-Ok.ensures.columns

pub returns-in-Ok-clause-sort : goal.returns-in-Ok-clause-sort
returns-in-Ok-clause-sort c =
    grown-sort c.self.inside.kind c.self.inside.to.items c.append_messages.new.nodes.items c.self.inside.values.items c.append_messages.new.columns.items (all_values c.deref-2.result.now) c.args.self.now c.args.more.now
    c.self.view_is c.requires c.in-Ok.ensures.columns

pub returns-in-Ok-clause-appended : goal.returns-in-Ok-clause-appended
returns-in-Ok-clause-appended c =
    all-messages c.self.inside.kind c.self.inside.to.items c.append_messages.new.nodes.items c.deref.result.now c.self.inside.values.items c.append_messages.new.columns.items c.deref-2.result.now c.args.self.now c.args.more.now
    c.self.view_is (c.deref.ensures.value ∙ ap (λ (t : MessageTable). t.to) c.more.view_is) (c.deref-2.ensures.value ∙ ap (λ (t : MessageTable). t.columns) c.more.view_is) c.requires c.self.invariant
    c.in-Ok.ensures.nodes c.in-Ok.ensures.columns
