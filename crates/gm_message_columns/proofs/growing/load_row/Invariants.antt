-- The values of the first columns.
use Rattle.std.proofs.Common.{◌≡◌, take}
use Rattle.gm_message_columns.specs.MessageTables.{row_values}
use Rattle.gm_message_columns.proofs.growing.load_row.Given as goal

abbrev pub invariant-loop-column : goal.invariant-loop-column
invariant-loop-column l = l.into.items ≡ row_values (take l.column-index l.columns) l.row
