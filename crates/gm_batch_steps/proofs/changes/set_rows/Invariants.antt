-- What was written so far.
use Rattle.std.proofs.Common.{◌≡◌, take}
use Rattle.gm_columns.specs.Cells.{values_of}
use Rattle.gm_kernels.specs.Pointwise.{written_at}
use Rattle.gm_batch_steps.proofs.changes.set_rows.Given as goal

abbrev pub invariant-loop-i : goal.invariant-loop-i
invariant-loop-i l = values_of l.cells ≡ written_at (values_of l.fn.cells) (take l.i l.rows) (take l.i l.column.values)
