use Rattle.std.proofs.Common.{◌<◌, length, ap, subst, arith}
use Rattle.gm_posting.specs.Gathering.{nothing}
use Rattle.gm_posting.proofs.GatheringLemmas.{held-at, gathers-few, flushed-one}
use Rattle.gm_posting.proofs.gathering.flush.Goals as goal

pub send_off-requires-clause-few : goal.send_off-requires-clause-few
send_off-requires-clause-few g c =
    let low = c.loop-to-test.true in
    let count = c.workers-to-end.ensures.count in
    let boxes = ap (λ (l : _). length l) c.requires.mailboxes in
    let wide = c.requires.wide in
    let wider = c.loop-to.invariant.gathers.wide in
    let is = held-at g.B.Bundle.items c.loop-to.gathered c.loop-to.to c.index-gathered-to.result (omega arith) in
    let few = gathers-few g.B.Bundle.items nothing c.args.posts.now c.loop-to.posts c.args.gathered.now c.loop-to.gathered c.loop-to.invariant.gathers c.loop-to.to (omega arith) in
    let less = subst (λ (l : _). length l < 1024) is few in
    omega arith

pub loop-to-preserved : goal.loop-to-preserved
loop-to-preserved g c =
    let low = c.loop-to-test.true in
    let count = c.workers-to-end.ensures.count in
    let boxes = ap (λ (l : _). length l) c.requires.mailboxes in
    let wide = c.requires.wide in
    flushed-one g.B.Bundle.items c.loop-to.to c.args.posts.now c.loop-to.posts c.send_off.new.posts c.args.gathered.now c.loop-to.gathered c.index-gathered-to.result c.send_off.new.gathered
    (omega arith) c.loop-to.invariant c.in_ok-send_off.ensures.0 c.in_ok-send_off.ensures.1
