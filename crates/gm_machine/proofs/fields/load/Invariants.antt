-- The values of the rows so far.
use Rattle.std.proofs.Common.{◌≡◌, map, take}
use Rattle.gm_columns.specs.Cells.{values_of}
use Rattle.gm_machine.specs.Machine.{row_at}
use Rattle.gm_machine.proofs.fields.load.Given as goal

abbrev pub invariant-loop-row : goal.invariant-loop-row
invariant-loop-row l = l.into.items ≡ row_at (take l.row-index (map values_of l.rows)) l.node
