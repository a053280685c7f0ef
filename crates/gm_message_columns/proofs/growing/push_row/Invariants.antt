-- The first columns have grown.
use Rattle.std.proofs.Common.{◌≡◌, take}
use Rattle.gm_message_columns.specs.MessageTables.{joined, values_in_row}
use Rattle.gm_message_columns.proofs.growing.push_row.Given as goal

abbrev pub invariant-loop-k : goal.invariant-loop-k
invariant-loop-k l = l.columns.items ≡ joined l.fn.columns.items (take l.k (values_in_row l.others l.row))
