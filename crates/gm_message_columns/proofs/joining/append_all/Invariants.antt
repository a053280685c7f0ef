-- The first rows have grown.
use Rattle.std.proofs.Common.{◌≡◌, map, take}
use Rattle.gm_columns.specs.TypedRows.{typed_row}
use Rattle.gm_message_columns.specs.MessageTables.{all_values, joined}
use Rattle.gm_message_columns.proofs.joining.append_all.Given as goal

abbrev pub invariant-loop-k : goal.invariant-loop-k
invariant-loop-k l = map typed_row l.rows.items ≡ joined (map typed_row l.fn.rows.items) (take l.k (all_values l.columns))
