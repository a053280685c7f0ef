-- No contribution so far has the slot.
use Rattle.std.proofs.Common.{◌≡◌, drop, find}
use Rattle.gm_machine.specs.Taking.{has_slot}
use Rattle.gm_machine.specs.Contributions.{contributions_of}
use Rattle.gm_machine.proofs.settling.first_with.Given as goal

abbrev pub invariant-loop-i : goal.invariant-loop-i
invariant-loop-i l = find (has_slot l.slot) (contributions_of (drop l.i l.parts)) ≡ find (has_slot l.slot) (contributions_of l.parts)
