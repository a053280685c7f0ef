-- Where the cells that are left are those of the values that are left, all are those of all.
use Rattle.std.proofs.Common.{◌≡◌, drop}
use Rattle.gm_machine.specs.MessageValues.{cells_of}
use Rattle.gm_machine.proofs.message_values.fits.Given as goal

abbrev pub invariant-loop-i : goal.invariant-loop-i
invariant-loop-i l = drop l.i l.cells ≡ cells_of l.at (drop l.i l.values) → l.cells ≡ cells_of 0 l.values
