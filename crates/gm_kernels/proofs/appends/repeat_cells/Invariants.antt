-- The rows so far, each repeated.
use Rattle.std.proofs.Common.{◌≡◌, take}
use Rattle.gm_kernels.specs.Pointwise.{repeated}
use Rattle.gm_kernels.proofs.appends.repeat_cells.Given as goal

abbrev pub invariant-loop-row : goal.invariant-loop-row
invariant-loop-row g l = l.out.items ≡ repeated (take l.row l.counts) (take l.row l.cells)
