-- The first messages stand behind the others.
use Rattle.std.proofs.Common.{◌≡◌, ◌++◌, take}
use Rattle.gm_message_columns.specs.MessageTables.{message_rows}
use Rattle.gm_message_columns.proofs.messages.add_rows_to.Given as goal

abbrev pub invariant-loop-row : goal.invariant-loop-row
invariant-loop-row l = l.others ≡ l.fn.others ++ take l.row (message_rows l.from)
