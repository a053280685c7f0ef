-- The types of the first columns are the same.
use Rattle.std.proofs.Common.{◌≡◌, take}
use Rattle.gm_message_columns.specs.MessageTables.{types_of}
use Rattle.gm_message_columns.proofs.growing.same_types.Given as goal

abbrev pub invariant-loop-k : goal.invariant-loop-k
invariant-loop-k l = take l.k (types_of l.columns) ≡ take l.k (types_of l.others)
