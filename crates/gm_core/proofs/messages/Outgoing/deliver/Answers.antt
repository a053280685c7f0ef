-- So many messages are there.
use Rattle.std.proofs.Common.{◌≡◌, ◌∙◌, ◌+◌, ◌-◌, ◌++◌, take, drop, length, sym, ap, arith}
use Rattle.std.proofs.lemmas.List.{length-drop, drop-drop}
use Rattle.gm_core.proofs.messages.Outgoing.deliver.Goals as goal

pub overflow_add-end : goal.overflow_add-end
overflow_add-end c = omega (arith, c.requires, c.self.invariant, ap length c.self.view_is, length-drop c.self.inside.front c.self.inside.messages)

pub returns-clause-delivered : goal.returns-clause-delivered
returns-clause-delivered c =
    let from = c.self.inside.front in
    let messages = c.self.inside.messages in
    c.in_ok-copy_range.ensures
    ∙ ap (λ k. c.args.incoming.now ++ take k (drop from messages)) (let e : (from + c.args.count) - from ≡ c.args.count = omega arith in e)
    ∙ ap (λ l. c.args.incoming.now ++ take c.args.count l) c.self.view_is

pub returns-clause-rest : goal.returns-clause-rest
returns-clause-rest c = sym (drop-drop c.args.count c.self.inside.front c.self.inside.messages) ∙ ap (drop c.args.count) c.self.view_is
