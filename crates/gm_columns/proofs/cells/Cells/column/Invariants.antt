-- The column holds the values of the first nodes.
use Rattle.std.proofs.Common.{◌≡◌, take}
use Rattle.gm_columns.specs.Cells.{values_of}
use Rattle.gm_columns.proofs.cells.Cells.column.Given as goal

abbrev pub invariant-loop-node : goal.invariant-loop-node
invariant-loop-node l = record {
  vtype : l.column.vtype ≡ l.vtype;
  values : l.column.values ≡ take l.node (values_of l.self);
}
