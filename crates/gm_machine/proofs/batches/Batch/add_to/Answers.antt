-- The kind and the values of a message make one to another node, which stands behind the others.
use Rattle.std.proofs.Common.{[], ◌∷◌, ◌++◌, ◌∙◌, ap, rules}
use Rattle.gm_machine.proofs.Messages.{message-sent, same-messages, same-are, more-messages, more-are}
use Rattle.gm_machine.proofs.batches.Batch.add_to.Goals as goal

pub invariant_of-self-in_err-push_message : goal.invariant_of-self-in_err-push_message
invariant_of-self-in_err-push_message c =
    same-are c.self.inside.values c.push_message.new.values c.in_err-push_message.ensures.grows c.self.inside.headers.items c.push_message.new.headers.items c.self.inside.taken
    c.self.invariant c.in_err-push_message.ensures.sorts c.in_err-push_message.ensures.unchanged

pub returns-in_err-push_message-clause-unchanged : goal.returns-in_err-push_message-clause-unchanged
returns-in_err-push_message-clause-unchanged c =
    let same = same-messages c.self.inside.values c.push_message.new.values c.in_err-push_message.ensures.grows c.self.inside.headers.items c.push_message.new.headers.items c.self.inside.taken c.args.self.now
    c.self.invariant c.self.view_is c.in_err-push_message.ensures.unchanged in
    search (rules, same)

pub invariant_of-self-2 : goal.invariant_of-self-2
invariant_of-self-2 c =
    more-are c.self.inside.values c.push_message.new.values c.in_ok-push_message.ensures.grows c.self.inside.headers.items c.push_message.new.headers.items c.self.inside.taken c.args.to c.kind.result c.deref.result.now
    c.self.invariant c.in_ok-push_message.ensures.sorts c.in_ok-push_message.ensures.added

pub returns-clause-added : goal.returns-clause-added
returns-clause-added c = λ d.
    more-messages c.self.inside.values c.push_message.new.values c.in_ok-push_message.ensures.grows c.self.inside.headers.items c.push_message.new.headers.items c.self.inside.taken c.args.self.now c.args.to c.kind.result c.deref.result.now
    c.self.invariant c.self.view_is c.in_ok-push_message.ensures.added
    ∙ ap (λ m. c.args.self.now ++ m ∷ [])
    (message-sent c.args.other.now c.args.i c.args.to c.kind.result c.deref.result.now d c.requires c.kind.ensures
    (c.deref.ensures.value ∙ c.in_ok-load.ensures (record { to = 0; kind = 0; values = c.deref.result.now })))
