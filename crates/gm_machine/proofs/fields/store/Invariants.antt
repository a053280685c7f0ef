-- The rows so far have their new values.
use Rattle.std.proofs.Common.{map}
use Rattle.gm_columns.specs.Cells.{values_of}
use Rattle.gm_machine.proofs.FieldRows.{IsStoredTo}
use Rattle.gm_machine.proofs.fields.store.Given as goal

abbrev pub invariant-loop-slot : goal.invariant-loop-slot
invariant-loop-slot l = IsStoredTo l.slot l.node l.from (map values_of l.fn.rows.items) (map values_of l.rows.items)
