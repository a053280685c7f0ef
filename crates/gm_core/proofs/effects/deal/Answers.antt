-- One more message is dealt.
use Rattle.std.proofs.Common.{◌≡◌, ◌<◌, ◌∙◌, ◌++◌, [], length, take, ap, arith}
use Rattle.std.proofs.Math.Seq.{take-length}
use Rattle.std.proofs.lemmas.List.{length-set}
use Rattle.gm_machine.specs.Vertex.{Message}
use Rattle.gm_core.specs.Cores.{owner, for_worker}
use Rattle.gm_core.specs.CoreViews.{row_at}
use Rattle.gm_core.proofs.RowReads.{dealt-more}
use Rattle.gm_core.proofs.effects.deal.Goals as goal

pub add-requires-clause-worker : goal.add-requires-clause-worker
add-requires-clause-worker c = omega (arith, c.requires c.to.result, c.owner_in-worker.ensures, c.loop-i.invariant.wide)

pub loop-i-preserved : goal.loop-i-preserved
loop-i-preserved c =
    let d : Message = record { to = c.to.result; kind = 0; values = [] } in
    let some : c.owner_in-worker.result < length c.loop-i.outbox = omega (arith, c.requires c.to.result, c.owner_in-worker.ensures, c.loop-i.invariant.wide) in
    record {
      wide = ap length (c.in_ok-add.ensures d) ∙ length-set c.loop-i.outbox c.owner_in-worker.result _ ∙ c.loop-i.invariant.wide;
      each =
          dealt-more c.args.owners.now c.args.messages.now c.loop-i.i c.owner_in-worker.result d c.args.outbox.now c.loop-i.outbox c.add.new.self (omega arith)
          (c.owner_in-worker.ensures ∙ ap (owner c.args.owners.now) c.to.ensures) some (c.in_ok-add.ensures d) c.loop-i.invariant.each;
    }

pub returns-clause-each : goal.returns-clause-each
returns-clause-each c = λ to.
    c.loop-i.invariant.each to
    ∙ ap (λ l. row_at c.args.outbox.now to ++ for_worker c.args.owners.now to l)
    (ap (λ k. take k c.args.messages.now) (let e : c.loop-i.i ≡ length c.args.messages.now = omega arith in e) ∙ take-length c.args.messages.now)
