-- The slots before the index are the same.
use Rattle.std.proofs.Common.{◌≡◌, drop}
use Rattle.gm_image.specs.Folds.{same_numbers}
use Rattle.gm_machine.specs.Settling.{slots_in}
use Rattle.gm_machine.proofs.settling.same_slots.Given as goal

abbrev pub invariant-loop-i : goal.invariant-loop-i
invariant-loop-i l = same_numbers (slots_in (drop l.i l.some)) (slots_in (drop l.i l.other)) ≡ same_numbers (slots_in l.some) (slots_in l.other)
