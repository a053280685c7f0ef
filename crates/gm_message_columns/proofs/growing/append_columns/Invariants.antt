-- The first columns have grown.
use Rattle.std.proofs.Common.{◌≡◌, take}
use Rattle.gm_message_columns.specs.MessageTables.{all_values, joined}
use Rattle.gm_message_columns.proofs.growing.append_columns.Given as goal

abbrev pub invariant-loop-k : goal.invariant-loop-k
invariant-loop-k l = l.columns.items ≡ joined l.fn.columns.items (take l.k (all_values l.others))
