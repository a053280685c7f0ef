-- The first columns have been picked.
use Rattle.std.proofs.Common.{◌≡◌, take}
use Rattle.gm_message_columns.specs.MessageTables.{picked_rows}
use Rattle.gm_message_columns.proofs.growing.picked_columns.Given as goal

abbrev pub invariant-loop-other : goal.invariant-loop-other
invariant-loop-other l = l.columns.items ≡ picked_rows (take l.other-index l.others) l.rows
