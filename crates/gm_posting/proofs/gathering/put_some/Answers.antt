use Rattle.std.proofs.Common.{◌<◌, ◌≤◌, [], length, ap, ◌∙◌, arith, ⊎_elim}
use Rattle.std.proofs.lemmas.Bool.{cases_lt}
use Rattle.std.proofs.lemmas.List.{length-append}
use Rattle.std.proofs.lemmas.Result.{on_ok_weaker}
use Rattle.gm_posting.specs.Gathering.{at_places}
use Rattle.gm_posting.proofs.GatheringLemmas.{goes-to-then, goes-to-here, goes-to-sent, places-long}
use Rattle.gm_posting.proofs.WorkerLemmas.{some-of}
use Rattle.gm_posting.proofs.gathering.put_some.Goals as goal

pub send_off-requires-clause-few : goal.send_off-requires-clause-few
send_off-requires-clause-few g c =
    let from = g.B.Bundle.items c.args.from.now in
    let held = g.B.Bundle.items c.make_room.new.gathered in
    let now = g.B.Bundle.items c.add_rows.new.self in
    let room = c.in_ok-make_room.ensures.room in
    ⊎_elim
    (λ (many : 1024 < length now).
    let d = some-of now (omega arith) in
    let long = ap (λ (l : _). length l) (c.in_ok-add_rows.ensures d) ∙ length-append held (at_places from c.args.rows.now d) in
    omega (arith, room, long, places-long from c.args.rows.now d))
    (λ (few : length now ≤ 1024). few)
    (cases_lt 1024 (length now))

pub returns-then-len-lt-FULL : goal.returns-then-len-lt-FULL
returns-then-len-lt-FULL g c = λ d.
    let more = at_places (g.B.Bundle.items c.args.from.now) c.args.rows.now d in
    goes-to-then g.B.Bundle.items c.args.to [] more c.args.posts.now c.make_room.new.posts c.make_room.new.posts c.args.gathered.now c.make_room.new.gathered c.add_rows.new.self c.in_ok-make_room.ensures.gone
    (goes-to-here g.B.Bundle.items c.args.to more c.make_room.new.posts c.make_room.new.gathered c.add_rows.new.self (c.in_ok-add_rows.ensures d) (omega (arith, c.len.ensures, c.if-len-lt-FULL.true)))

pub returns : goal.returns
returns g c =
    on_ok_weaker c.send_off.result
    (λ sent d.
    let more = at_places (g.B.Bundle.items c.args.from.now) c.args.rows.now d in
    goes-to-then g.B.Bundle.items c.args.to [] more c.args.posts.now c.make_room.new.posts c.send_off.new.posts c.args.gathered.now c.make_room.new.gathered c.send_off.new.gathered c.in_ok-make_room.ensures.gone
    (goes-to-sent g.B.Bundle.items c.args.to more c.make_room.new.posts c.send_off.new.posts c.make_room.new.gathered c.add_rows.new.self c.send_off.new.gathered (c.in_ok-add_rows.ensures d) sent.0))
    c.send_off.ensures
