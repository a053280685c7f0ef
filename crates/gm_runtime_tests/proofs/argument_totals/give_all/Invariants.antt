use Rattle.gm_totals.specs.Standing.{Within}
use Rattle.gm_runtime_tests.proofs.argument_totals.give_all.Given as goal

-- the totals so far are of slots of the store
abbrev pub invariant-loop-gift : goal.invariant-loop-gift
invariant-loop-gift l = Within (record { scalars = 4; rows = 0; nodes = 1 }) l.totals
