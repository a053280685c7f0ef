-- One more worker.
use Rattle.std.proofs.Common.{◌≡◌, subst, arith}
use Rattle.gm_image.specs.Views.{program}
use Rattle.gm_workers.specs.Crews.{AreFirst}
use Rattle.gm_workers.proofs.FirstLemmas.{first-more}
use Rattle.gm_workers.proofs.crews.first_slots.Goals as goal

pub loop-worker-preserved : goal.loop-worker-preserved
loop-worker-preserved c =
    first-more (program c.args.image.now) c.args.graph.now c.args.owners.now c.loop-worker.worker c.loop-worker.slots.items c.push.new.self.items c.in_ok-first_slot.field-0
    c.in_ok-push.ensures.items c.in_ok-first_slot.ensures.nodes c.in_ok-first_slot.ensures.fields c.in_ok-first_slot.ensures.waiting c.loop-worker.invariant

pub returns : goal.returns
returns c =
    let all : c.loop-worker.worker ≡ c.args.workers = omega (arith, c.loop-worker-test.false, c.loop-worker.auto.worker-end) in
    subst (λ n. AreFirst (program c.args.image.now) c.args.graph.now c.args.owners.now n c.loop-worker.slots.items) all c.loop-worker.invariant
