-- One more message has come.
use Rattle.std.proofs.Common.{◌∙◌, ◌++◌, [], ap, arith}
use Rattle.gm_machine.specs.Vertex.{Message}
use Rattle.gm_message_columns.proofs.JoiningLemmas.{directed-all, directed-more}
use Rattle.gm_message_columns.proofs.joining.add_each_to.Goals as goal

pub loop-i-preserved : goal.loop-i-preserved
loop-i-preserved c =
    let d : Message = record { to = 0; kind = 0; values = [] } in
    directed-more c.args.to.now c.args.more.now c.loop-i.i d c.args.messages.now c.loop-i.messages c.add_to.new.self c.loop-i-test.true c.requires c.loop-i.invariant (c.in_ok-add_to.ensures d)

pub returns : goal.returns
returns c =
    c.loop-i.invariant ∙ ap (λ l. c.args.messages.now ++ l) (directed-all c.args.to.now c.args.more.now c.loop-i.i (omega (arith, c.loop-i-test.false, c.loop-i.auto.i-end)) c.requires)
