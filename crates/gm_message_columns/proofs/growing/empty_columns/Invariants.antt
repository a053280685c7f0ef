-- Columns for the first of the others.
use Rattle.std.proofs.Common.{◌≡◌, take}
use Rattle.gm_message_columns.specs.MessageTables.{emptied}
use Rattle.gm_message_columns.proofs.growing.empty_columns.Given as goal

abbrev pub invariant-loop-other : goal.invariant-loop-other
invariant-loop-other l = l.columns.items ≡ emptied (take l.other-index l.others)
