use Rattle.std.proofs.Common.{◌≡◌, ◌++◌, drop}
use Rattle.std.specs.Prelude.{flat_map}
use Rattle.gm_cut.specs.Slices.{told_at}
use Rattle.gm_prepare.proofs.declared.list_targets.Given as goal

-- what is there and what is left make the whole
abbrev pub invariant-loop-target : goal.invariant-loop-target
invariant-loop-target l = l.names.items ++ flat_map told_at (drop l.target-index l.targets.items) ≡ l.initial.names.items ++ flat_map told_at l.targets.items
