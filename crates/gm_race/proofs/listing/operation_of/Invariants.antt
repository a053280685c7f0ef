use Rattle.std.proofs.Common.{◌≡◌, map, take}
use Rattle.gm_ast.specs.Loops.{target_variable}
use Rattle.gm_race.proofs.listing.operation_of.Given as goal

-- the variables of the targets so far
abbrev pub invariant-loop-target : goal.invariant-loop-target
invariant-loop-target l = l.targets.items ≡ map target_variable (take l.target-index l.reduction.targets.now)
