-- What was written so far is what was chosen so far.
use Rattle.std.proofs.Common.{◌≡◌, take}
use Rattle.gm_kernels.specs.Pointwise.{chosen}
use Rattle.gm_kernels.proofs.selections.write_chosen.Given as goal

abbrev pub invariant-loop-row : goal.invariant-loop-row
invariant-loop-row g l = take l.row l.out ≡ chosen (take l.row l.flags) (take l.row l.yes) (take l.row l.no)
