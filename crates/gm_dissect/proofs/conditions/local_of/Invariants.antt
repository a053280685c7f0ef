use Rattle.std.proofs.Common.{◌≡◌, ◌+◌, drop}
use Rattle.gm_dissect.specs.Conditions.{local_of}
use Rattle.gm_dissect.proofs.conditions.local_of.Given as goal

-- what is left has the same local, counted from here
abbrev pub invariant-loop-number : goal.invariant-loop-number
invariant-loop-number l = (local_of l.local (drop l.number-index l.numbers.items) l.key ≡ local_of l.first l.numbers.items l.key) × (l.local ≡ l.first + l.number-index)
