use Rattle.std.proofs.Common.{◌≤◌, length, arith}
use Rattle.std.proofs.lemmas.Bool.Decides.{nat_tests}
use Rattle.gm_race.proofs.Targets.{too-few, ended}
use Rattle.gm_race.proofs.firsts.same_targets.Goals as goal

pub returns-in_default : goal.returns-in_default
returns-in_default c =
    let e = c.in_default.ensures.lookup.0 in
    let few : length c.args.b.now ≤ c.loop-i.i = grind (arith, nat_tests) in
    too-few c.args.a.now c.args.b.now c.loop-i.i c.loop-i-test.true few c.loop-i.invariant.left

pub returns : goal.returns
returns c = ended c.args.a.now c.args.b.now c.loop-i.i c.loop-i-test.false c.loop-i.auto.i-end c.loop-i.invariant.within c.loop-i.invariant.left
