use Rattle.std.proofs.Common.{◌≡◌, ◌++◌, drop}
use Rattle.gm_forms.specs.Sharing.{variables_of}
use Rattle.gm_facts.proofs.changes.list_targets.Given as goal

-- what is there and what is left make the whole
abbrev pub invariant-loop-target : goal.invariant-loop-target
invariant-loop-target l = l.variables.items ++ variables_of (drop l.target-index l.targets.items) ≡ l.initial.variables.items ++ variables_of l.targets.items
