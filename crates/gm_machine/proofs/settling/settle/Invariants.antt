-- The slots so far are settled.
use Rattle.gm_machine.proofs.SlotSteps.{IsSettledTo}
use Rattle.gm_machine.proofs.settling.settle.Given as goal

abbrev pub invariant-loop-slot : goal.invariant-loop-slot
invariant-loop-slot l = IsSettledTo l.places l.contributions l.fn.values.items l.slot l.after.items l.fault
