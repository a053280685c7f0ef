use Rattle.gm_totals.specs.Standing.{Within}
use Rattle.gm_runtime_tests.proofs.running_totals.give_all.Given as goal

-- the totals so far are of slots of the store
abbrev pub invariant-loop-contribution : goal.invariant-loop-contribution
invariant-loop-contribution l = Within (record { scalars = 1; rows = 1; nodes = 3 }) l.totals
