-- The zeros so far.
use Rattle.std.proofs.Common.{◌≡◌, take, map}
use Rattle.gm_value.specs.Numbers.{zero_of}
use Rattle.gm_machine.proofs.lines.reset.Given as goal

abbrev pub invariant-loop-t : goal.invariant-loop-t
invariant-loop-t l = l.registers.items ≡ map zero_of (take l.t-index l.types)
