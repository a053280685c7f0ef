-- One more message is looked at.
use Rattle.std.proofs.Common.{◌≡◌, ◌∙◌, [], length, take, ap, arith}
use Rattle.std.proofs.Math.Seq.{take-length}
use Rattle.gm_machine.specs.Machine.{inbox}
use Rattle.gm_machine.specs.Vertex.{Message}
use Rattle.gm_core.proofs.RowReads.{inbox-more}
use Rattle.gm_core.proofs.effects.inbox_of.Goals as goal

abbrev nowhere : Message
nowhere = record { to = 0; kind = 0; values = [] }

pub loop-i-preserved : goal.loop-i-preserved
loop-i-preserved c =
    inbox-more c.args.waiting.now c.loop-i.i c.args.node nowhere c.loop-i.own c.take_own.new.own (omega arith) c.loop-i.invariant (c.in_ok-take_own.ensures nowhere)

pub returns : goal.returns
returns c =
    c.loop-i.invariant
    ∙ ap (λ k. inbox (take k c.args.waiting.now) c.args.node) (let e : c.loop-i.i ≡ length c.args.waiting.now = omega arith in e)
    ∙ ap (λ l. inbox l c.args.node) (take-length c.args.waiting.now)
