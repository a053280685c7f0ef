-- The first messages have come.
use Rattle.std.proofs.Common.{◌≡◌, ◌++◌, map, take}
use Rattle.gm_message_columns.specs.MessageTables.{OfOneSort, message_at, message_rows}
use Rattle.gm_message_columns.proofs.columns.MessageColumns.add_rows.Given as goal

abbrev pub invariant-loop-row : goal.invariant-loop-row
invariant-loop-row l = record {
  sort : OfOneSort l.self l.other;
  added : message_rows l.self ≡ message_rows l.fn.self ++ map (message_at l.other) (take l.row-index l.rows);
}
