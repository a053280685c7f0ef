-- The first rows stand behind the column.
use Rattle.std.proofs.Common.{◌≡◌, ◌++◌, take}
use Rattle.gm_message_columns.proofs.growing.append_column.Given as goal

abbrev pub invariant-loop-row : goal.invariant-loop-row
invariant-loop-row l = record {
  vtype : l.column.vtype ≡ l.fn.column.vtype;
  values : l.column.values ≡ l.fn.column.values ++ take l.row l.other.values;
}
