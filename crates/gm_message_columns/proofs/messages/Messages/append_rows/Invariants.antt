-- The first messages stand behind these.
use Rattle.std.proofs.Common.{◌≡◌, ◌++◌, take}
use Rattle.gm_message_columns.specs.MessageTables.{message_rows}
use Rattle.gm_message_columns.proofs.messages.Messages.append_rows.Given as goal

abbrev pub invariant-loop-row : goal.invariant-loop-row
invariant-loop-row l = l.self ≡ l.fn.self ++ take l.row (message_rows l.more)
