-- The items at the next places have gathered or were sent.
use Rattle.std.proofs.Common.{◌≡◌, ◌<◌, ◌≤◌, ◌+◌, ◌-◌, ◌∙◌, ◌++◌, All, length, ap, subst, sym, take, drop, arith}
use Rattle.std.proofs.lemmas.List.{take_all}
use Rattle.gm_posting.specs.Gathering.{at_places}
use Rattle.gm_posting.specs.Traffic.{Traffic}
use Rattle.gm_posting.proofs.GatheringLemmas.{goes-to-as, goes-to-then, places-more, all-part}
use Rattle.gm_posting.proofs.WorkerLemmas.{some-of}
use Rattle.gm_posting.proofs.gathering.put_to.Goals as goal

pub put_some-requires-clause-mailboxes : goal.put_some-requires-clause-mailboxes
put_some-requires-clause-mailboxes g c =
    let some = c.requires.rows c.loop-next.next 0 c.loop-next-test.true in
    let d = some-of (g.B.Bundle.items c.args.from.now) (omega arith) in
    ap (λ (t : Traffic _). t.mailboxes) (c.loop-next.invariant d).kept ∙ c.requires.mailboxes

pub put_some-requires-clause-few : goal.put_some-requires-clause-few
put_some-requires-clause-few g c =
    let some = c.requires.rows c.loop-next.next 0 c.loop-next-test.true in
    let d = some-of (g.B.Bundle.items c.args.from.now) (omega arith) in
    (c.loop-next.invariant d).here.few

pub put_some-requires-clause-rows : goal.put_some-requires-clause-rows
put_some-requires-clause-rows g c =
    let one : (c.loop-next.next + c.min.result) - c.loop-next.next ≡ c.min.result = omega arith in
    let within : c.loop-next.next + c.min.result ≤ length c.args.rows.now = omega (arith, c.min.ensures, c.loop-next-test.true) in
    subst (λ n. All (λ row. row < length (g.B.Bundle.items c.args.from.now)) (take n (drop c.loop-next.next c.args.rows.now))) (sym one)
    (all-part (λ row. row < length (g.B.Bundle.items c.args.from.now)) c.args.rows.now c.loop-next.next c.min.result within c.requires.rows)

pub loop-next-preserved : goal.loop-next-preserved
loop-next-preserved g c = λ d.
    let items = g.B.Bundle.items c.args.from.now in
    let next = c.loop-next.next in
    let rows = c.args.rows.now in
    let m = (next + c.min.result) - next in
    let one : m ≡ c.min.result = omega arith in
    goes-to-as g.B.Bundle.items c.args.to _ _ c.args.posts.now c.put_some.new.posts c.args.gathered.now c.put_some.new.gathered
    (ap (λ n. at_places items (take next rows) d ++ at_places items (take n (drop next rows)) d) one ∙ places-more items rows next c.min.result d)
    (goes-to-then g.B.Bundle.items c.args.to (at_places items (take next rows) d) (at_places items (take m (drop next rows)) d) c.args.posts.now c.loop-next.posts c.put_some.new.posts
    c.args.gathered.now c.loop-next.gathered c.put_some.new.gathered (c.loop-next.invariant d) (c.in_ok-put_some.ensures d))

pub returns : goal.returns
returns g c = λ d.
    goes-to-as g.B.Bundle.items c.args.to _ _ c.args.posts.now c.loop-next.posts c.args.gathered.now c.loop-next.gathered
    (ap (λ l. at_places (g.B.Bundle.items c.args.from.now) l d) (take_all c.loop-next.next c.args.rows.now (omega (arith, c.loop-next-test.false))))
    (c.loop-next.invariant d)
