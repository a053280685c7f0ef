-- One more message stands behind the others, and values without a header change nothing.
use Rattle.std.proofs.Common.{rules}
use Rattle.gm_machine.proofs.Messages.{same-messages, same-are, more-messages, more-are}
use Rattle.gm_machine.proofs.batches.Batch.add.Goals as goal

pub invariant_of-self : goal.invariant_of-self
invariant_of-self c =
    same-are c.self.inside.values c.push_message.new.values c.in_err-push_message.ensures.grows c.self.inside.headers.items c.push_message.new.headers.items c.self.inside.taken
    c.self.invariant c.in_err-push_message.ensures.sorts c.in_err-push_message.ensures.unchanged

pub returns-in_err-push_message-clause-unchanged : goal.returns-in_err-push_message-clause-unchanged
returns-in_err-push_message-clause-unchanged c =
    let same = same-messages c.self.inside.values c.push_message.new.values c.in_err-push_message.ensures.grows c.self.inside.headers.items c.push_message.new.headers.items c.self.inside.taken c.args.self.now
    c.self.invariant c.self.view_is c.in_err-push_message.ensures.unchanged in
    search (rules, same)

pub invariant_of-self-2 : goal.invariant_of-self-2
invariant_of-self-2 c =
    more-are c.self.inside.values c.push_message.new.values c.in_ok-push_message.ensures.grows c.self.inside.headers.items c.push_message.new.headers.items c.self.inside.taken c.args.to c.args.kind c.args.values.now
    c.self.invariant c.in_ok-push_message.ensures.sorts c.in_ok-push_message.ensures.added

pub returns-clause-added : goal.returns-clause-added
returns-clause-added c =
    more-messages c.self.inside.values c.push_message.new.values c.in_ok-push_message.ensures.grows c.self.inside.headers.items c.push_message.new.headers.items c.self.inside.taken c.args.self.now c.args.to c.args.kind c.args.values.now
    c.self.invariant c.self.view_is c.in_ok-push_message.ensures.added
