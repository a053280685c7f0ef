-- Rows for the first columns.
use Rattle.std.proofs.Common.{◌≡◌, map, take}
use Rattle.gm_columns.specs.TypedRows.{typed_row}
use Rattle.gm_message_columns.specs.MessageTables.{emptied}
use Rattle.gm_message_columns.proofs.joining.no_values.Given as goal

abbrev pub invariant-loop-column : goal.invariant-loop-column
invariant-loop-column l = map typed_row l.rows.items ≡ emptied (take l.column-index l.columns)
