-- The first values are those of the node.
use Rattle.std.proofs.Common.{◌≡◌, ◌<◌, ℕ, get_or, length, map}
use Rattle.gm_value.specs.declared.values.Value.{Value}
use Rattle.gm_columns.specs.Cells.{values_of}
use Rattle.gm_machine.specs.Machine.{row_at}
use Rattle.gm_machine.proofs.fields.reload.Given as goal

abbrev pub invariant-loop-slot : goal.invariant-loop-slot
invariant-loop-slot l = record {
  long : length l.into.items ≡ length l.rows;
  read : (k : ℕ) (d : Value) → k < l.slot → get_or l.into.items k d ≡ get_or (row_at (map values_of l.rows) l.node) k d;
}
