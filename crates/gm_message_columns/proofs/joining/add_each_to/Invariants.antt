-- The first messages have come.
use Rattle.std.proofs.Common.{◌≡◌, ◌++◌, take}
use Rattle.gm_message_columns.specs.MessageTables.{directed}
use Rattle.gm_message_columns.proofs.joining.add_each_to.Given as goal

abbrev pub invariant-loop-i : goal.invariant-loop-i
invariant-loop-i l = l.messages ≡ l.fn.messages ++ take l.i (directed l.to l.more)
