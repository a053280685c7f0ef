-- The first messages have come.
use Rattle.std.proofs.Common.{◌≡◌, ◌++◌, map, take}
use Rattle.gm_message_columns.specs.MessageTables.{message_at}
use Rattle.gm_message_columns.proofs.messages.Messages.add_each_row.Given as goal

abbrev pub invariant-loop-row : goal.invariant-loop-row
invariant-loop-row l = l.self ≡ l.fn.self ++ map (message_at l.from) (take l.row-index l.rows)
