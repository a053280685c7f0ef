-- The square of the least number is far.
use Rattle.std.proofs.Common.{arith}
use Rattle.std.proofs.lemmas.Int.{ints}
use Rattle.gm_machine.proofs.HandedTotals.{two-far}
use Rattle.gm_machine.proofs.totals.add_far.Goals as goal

pub returns-clause-added : goal.returns-clause-added
returns-clause-added c = λ far is. two-far c.args.batch.now c.add_two.new.batch c.args.to c.args.kind _ _ far c.in_ok-add_two.ensures.added (omega (arith, ints)) is
