-- The messages so far, with any that have the sum that is left, have the sum.
use Rattle.std.specs.Prelude.{unsigned_abs}
use Rattle.gm_machine.proofs.HandedTotals.{SumsTo}
use Rattle.gm_machine.proofs.totals.add_sum.Given as goal

abbrev pub invariant-parts : goal.invariant-parts
invariant-parts l = SumsTo l.fn.batch l.to l.kind l.sum l.left l.batch

abbrev pub decreases-parts : goal.decreases-parts
decreases-parts l = unsigned_abs l.left
