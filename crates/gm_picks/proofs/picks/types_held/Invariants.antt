use Rattle.std.proofs.Common.{◌≡◌, ◌++◌, drop}
use Rattle.gm_picks.specs.Picks.{types_held}
use Rattle.gm_picks.proofs.picks.types_held.Given as goal

-- the types so far and those of the targets that are left are all
abbrev pub invariant-loop-target : goal.invariant-loop-target
invariant-loop-target l = l.types.items ++ types_held l.declarations l.fn.around (drop l.target-index l.targets) ≡ l.initial.types.items ++ types_held l.declarations l.fn.around l.targets
