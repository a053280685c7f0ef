-- One more message is copied.
use Rattle.std.proofs.Common.{◌≡◌, ◌∙◌, ◌-◌, ◌++◌, [], take, drop, sym, ap, arith}
use Rattle.std.proofs.lemmas.List.{append-nil}
use Rattle.gm_machine.specs.Vertex.{Message}
use Rattle.gm_core.proofs.RowReads.{range-more}
use Rattle.gm_core.proofs.messages.copy_range.Goals as goal

abbrev nowhere : Message
nowhere = record { to = 0; kind = 0; values = [] }

pub loop-i-init : goal.loop-i-init
loop-i-init c =
    sym (ap (λ k. c.args.to.now ++ take k (drop c.args.start c.args.from.now)) (let e : c.args.start - c.args.start ≡ 0 = omega arith in e) ∙ append-nil c.args.to.now)

pub loop-i-preserved : goal.loop-i-preserved
loop-i-preserved c =
    range-more c.args.from.now c.args.start c.loop-i.i nowhere c.args.to.now c.loop-i.to c.copy_message.new.to (omega arith) (omega arith) c.loop-i.invariant (c.in_ok-copy_message.ensures.added nowhere)

pub returns : goal.returns
returns c =
    c.loop-i.invariant ∙ ap (λ k. c.args.to.now ++ take (k - c.args.start) (drop c.args.start c.args.from.now)) (let e : c.loop-i.i ≡ c.args.end = omega arith in e)
