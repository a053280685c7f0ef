-- The values so far.
use Rattle.std.proofs.Common.{◌≡◌, take, map}
use Rattle.gm_machine.specs.Expressions.{value_at}
use Rattle.gm_machine.specs.Settling.{slots_in}
use Rattle.gm_machine.proofs.settling.copy_held.Given as goal

abbrev pub invariant-loop-p : goal.invariant-loop-p
invariant-loop-p l = l.held.items ≡ map (value_at l.values) (slots_in (take l.p-index l.target))
