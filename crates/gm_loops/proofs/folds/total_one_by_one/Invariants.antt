use Rattle.std.proofs.Common.{◌≤◌, ◌+◌, length, map, drop}
use Rattle.gm_value.specs.Totals.{IsTotal}
use Rattle.gm_semantics.specs.Expressions.{members_of, reduce_of}
use Rattle.gm_semantics.specs.Faults.{joined}
use Rattle.gm_columns.specs.Cells.{values_of}
use Rattle.gm_loops.proofs.folds.total_one_by_one.Given as goal

-- the total is that of the values from the k-th on, and there are no more members than values
abbrev pub invariant-elements : goal.invariant-elements
invariant-elements l = record {
  within : l.k ≤ length (values_of l.cells);
  few : length (joined (map (members_of l.fold.word) (drop l.k (values_of l.cells)))) + l.k ≤ 2147483647;
  total : IsTotal (reduce_of l.fold.word) l.fold.vtype l.total (joined (map (members_of l.fold.word) (drop l.k (values_of l.cells))));
}

abbrev pub decreases-elements : goal.decreases-elements
decreases-elements l = l.k
