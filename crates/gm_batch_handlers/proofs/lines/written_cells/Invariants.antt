-- What was written so far.
use Rattle.std.proofs.Common.{◌≡◌, take}
use Rattle.gm_kernels.specs.Pointwise.{written_at}
use Rattle.gm_batch_handlers.proofs.lines.written_cells.Given as goal

abbrev pub invariant-loop-i : goal.invariant-loop-i
invariant-loop-i g l = l.cells.items ≡ written_at l.held (take l.i l.rows) (take l.i l.values)
