-- One, and the other behind it.
use Rattle.std.proofs.Common.{arith, rules}
use Rattle.std.proofs.lemmas.Int.{ints}
use Rattle.gm_machine.proofs.HandedTotals.{two-added, some-of-two}
use Rattle.gm_machine.proofs.totals.add_two.Goals as goal

pub returns-in_err-add_number-2-clause-part : goal.returns-in_err-add_number-2-clause-part
returns-in_err-add_number-2-clause-part c =
    let some = some-of-two c.args.batch.now c.add_number.new.batch c.add_number-2.new.batch c.args.to c.args.kind _ c.in_ok-add_number.ensures.added c.in_err-add_number-2.ensures.unchanged in
    search (rules, some)

pub returns-clause-added : goal.returns-clause-added
returns-clause-added c =
    two-added c.args.batch.now c.add_number.new.batch c.add_number-2.new.batch c.args.to c.args.kind c.args.first c.args.second _ _ c.in_ok-add_number.ensures.added c.in_ok-add_number-2.ensures.added
    (omega (arith, ints, c.ranges.first)) (omega (arith, ints, c.ranges.second))
