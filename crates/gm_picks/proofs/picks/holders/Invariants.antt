use Rattle.std.proofs.Common.{◌≡◌, ◌+◌, ◌++◌, drop}
use Rattle.gm_picks.specs.Picks.{count_held, held}
use Rattle.gm_picks.proofs.picks.holders.Given as goal

-- the scalars so far and those of the targets that are left are all, and so with the variables
abbrev pub invariant-loop-target : goal.invariant-loop-target
invariant-loop-target l = (l.scalars.items ++ held l.fn.around l.next (drop l.target-index l.targets) ≡ held l.fn.around l.initial.next l.targets) × (l.next + count_held l.fn.around (drop l.target-index l.targets) ≡ l.initial.next + count_held l.fn.around l.targets)
