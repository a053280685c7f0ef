-- The values so far.
use Rattle.std.proofs.Common.{◌≡◌, take, map}
use Rattle.gm_machine.proofs.settling.copy_values.Given as goal

abbrev pub invariant-loop-p : goal.invariant-loop-p
invariant-loop-p l = l.values.items ≡ map (λ p. p.value) (take l.p-index l.parts)
