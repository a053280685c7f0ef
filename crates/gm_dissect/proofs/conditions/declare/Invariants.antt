use Rattle.std.proofs.Common.{◌≡◌, ◌++◌, drop}
use Rattle.gm_dissect.specs.Conditions.{flag_locals}
use Rattle.gm_dissect.proofs.conditions.declare.Given as goal

-- what is there and what is left make the whole
abbrev pub invariant-loop-number : goal.invariant-loop-number
invariant-loop-number l = l.declarations.items ++ flag_locals (drop l._number-index l.numbers.items) ≡ l.initial.declarations.items ++ flag_locals l.numbers.items
