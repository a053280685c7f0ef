-- What was written so far.
use Rattle.std.proofs.Common.{◌≡◌, take}
use Rattle.gm_kernels.specs.Pointwise.{written_at}
use Rattle.gm_kernels.proofs.writes.write_at.Given as goal

abbrev pub invariant-loop-row : goal.invariant-loop-row
invariant-loop-row g l = l.cells ≡ written_at l.fn.cells (take l.row l.places) (take l.row l.values)
