use Rattle.std.proofs.Common.{◌≡◌, Ok}
use Rattle.std.specs.Prelude.{slice_index_or}
use Rattle.gm_value.specs.declared.values.Value.{Value}
use Rattle.gm_value.specs.Operations.{result2}
use Rattle.gm_columns.specs.Cells.{values_of}
use Rattle.gm_loops.specs.Columns.{Each}
use Rattle.gm_loops.proofs.columns.applied.Given as goal

-- the values at the nodes so far
abbrev pub invariant-loop-node : goal.invariant-loop-node
invariant-loop-node l = Each l.node (λ k v. (d : Value) → result2 l.op (slice_index_or (values_of l.first) k d) (slice_index_or (values_of l.second) k d) ≡ Ok v) l.cells
