use Rattle.std.proofs.Common.{◌<◌, length, subst, arith}
use Rattle.std.proofs.lemmas.Result.{on_ok_weaker}
use Rattle.gm_posting.specs.Gathering.{at_places}
use Rattle.gm_posting.proofs.GatheringLemmas.{held-at, gathers-one}
use Rattle.gm_posting.proofs.gathering.put_rows.Goals as goal

pub put_to-requires-clause-few : goal.put_to-requires-clause-few
put_to-requires-clause-few g c =
    let receiver = c.requires.receiver in
    let wide = c.requires.wide in
    let is = held-at g.B.Bundle.items c.args.gathered.now c.args.to c.index-gathered-to.result (omega arith) in
    subst (λ (l : _). length l < 1024) is (c.requires.few c.args.to (omega arith))

pub returns : goal.returns
returns g c =
    let receiver = c.requires.receiver in
    let wide = c.requires.wide in
    on_ok_weaker c.put_to.result
    (λ goes d.
    gathers-one g.B.Bundle.items c.args.to (at_places (g.B.Bundle.items c.args.from.now) c.args.rows.now d) c.args.posts.now c.put_to.new.posts c.args.gathered.now c.index-gathered-to.result c.put_to.new.gathered
    (omega arith) c.requires.few (goes d))
    c.put_to.ensures
