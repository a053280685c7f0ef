use Rattle.std.proofs.Common.{◌≡◌, ◌≤◌, drop, length}
use Rattle.gm_semantics.specs.Iterations.{ends_of_all}
use Rattle.gm_loops.specs.Around.{ends_as, loop_of, mode_in}
use Rattle.gm_loops.proofs.around.Around.ends_of_all.Given as goal

-- when the reductions to the targets behind end
abbrev pub invariant-loop-k : goal.invariant-loop-k
invariant-loop-k l = (l.k ≤ length l.targets) × (ends_as l.ends ≡ ends_of_all (mode_in l.self l.mode) (loop_of l.self) (drop l.k l.targets))

abbrev pub decreases-loop-k : goal.decreases-loop-k
decreases-loop-k l = l.k
