-- What is left leads to what all lead to.
use Rattle.gm_machine.specs.Settling.{slots_in}
use Rattle.gm_machine.proofs.TargetSteps.{IsBestTo}
use Rattle.gm_machine.proofs.settling.find_best.Given as goal

abbrev pub invariant-loop-i : goal.invariant-loop-i
invariant-loop-i l = IsBestTo l.reduce l.place (slots_in l.target) l.held l.parts l.i l.found l.chosen.items
