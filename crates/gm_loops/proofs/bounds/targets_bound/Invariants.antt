use Rattle.std.proofs.Common.{◌≡◌, drop}
use Rattle.std.specs.Prelude.{max}
use Rattle.gm_loops.specs.Bounds.{targets_bound}
use Rattle.gm_loops.proofs.bounds.targets_bound.Given as goal

-- the bound so far, with that of the targets that are left, is the bound of all
abbrev pub invariant-loop-target : goal.invariant-loop-target
invariant-loop-target l = max l.bound (targets_bound (drop l.target-index l.targets)) ≡ targets_bound l.targets
