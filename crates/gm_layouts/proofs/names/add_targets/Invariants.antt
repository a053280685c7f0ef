use Rattle.std.proofs.Common.{◌≡◌, ◌++◌, drop}
use Rattle.gm_layouts.specs.Named.{names_of_targets}
use Rattle.gm_layouts.proofs.names.add_targets.Given as goal

-- what is there and what is left make the whole
abbrev pub invariant-loop-target : goal.invariant-loop-target
invariant-loop-target l = l.names.items ++ names_of_targets (drop l.target-index l.targets) ≡ l.initial.names.items ++ names_of_targets l.targets
