use Rattle.std.proofs.Common.{◌≡◌, ◌++◌, map, drop}
use Rattle.gm_types.proofs.lists.targets_of.Given as goal

-- the targets so far, with those that are left, are all
abbrev pub invariant-loop-goal : goal.invariant-loop-goal
invariant-loop-goal l = l.targets.items ++ map (λ g. g.target) (drop l.goal-index l.goals) ≡ map (λ g. g.target) l.initial.goals
