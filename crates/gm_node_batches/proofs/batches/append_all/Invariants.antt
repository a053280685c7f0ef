-- The messages so far.
use Rattle.std.proofs.Common.{◌≡◌, ◌++◌}
use Rattle.std.specs.List.{flat_map}
use Rattle.gm_message_columns.specs.MessageTables.{message_rows}
use Rattle.gm_node_batches.proofs.batches.append_all.Given as goal

abbrev pub invariant-loop-columns : goal.invariant-loop-columns
invariant-loop-columns l = l.messages ++ flat_map message_rows l.columns-iterator.rest.items ≡ l.fn.messages ++ flat_map message_rows l.fn.more.items
