use Rattle.std.proofs.Common.{◌≡◌, List, length, sym, ap, subst, ◌∙◌, arith}
use Rattle.gm_workers.specs.Threads.{AddsLate}
use Rattle.std.proofs.lemmas.List.{length-set}
use Rattle.gm_posting.proofs.WorkerLemmas.{next-rest}
use Rattle.gm_workers.proofs.ThreadLemmas.{adds-one}
use Rattle.gm_workers.proofs.threads.add_late.Goals as goal

pub loop-worker-preserved : goal.loop-worker-preserved
loop-worker-preserved c =
    let e = sym c.loop-worker.invariant.rest ∙ c.in-Some.ensures.items in
    let many = ap (λ (l : List _). length l) c.in-Some.ensures.items in
    let left = c.loop-worker.invariant.left in
    let wide = length-set c.loop-worker.slots c.loop-worker.worker c.add_batches.new.slot in
    record {
      added =
          adds-one c.loop-worker.worker c.args.late.items c.args.slots.now c.loop-worker.slots c.index-slots-worker.result c.add_batches.new.slot c.in-Some.more c.next.new.self.rest.items
          (omega arith) e c.loop-worker.invariant.added c.in_ok-add_batches-in-Some.ensures;
      rest = next-rest c.loop-worker.worker c.args.late.items c.in-Some.more c.next.new.self.rest.items e;
      left = omega arith;
    }

pub returns : goal.returns
returns c =
    let left = c.loop-worker.invariant.left in
    let wide = c.loop-worker.invariant.added.long in
    let done = c.loop-worker-test.false in
    let all : c.loop-worker.worker ≡ length c.args.slots.now = omega arith in
    subst (λ n. AddsLate n c.args.late.items c.args.slots.now c.loop-worker.slots) all c.loop-worker.invariant.added
