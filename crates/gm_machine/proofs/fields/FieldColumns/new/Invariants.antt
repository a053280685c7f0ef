-- The rows so far are those of the first types, each with a value for each node.
use Rattle.std.proofs.Common.{◌≡◌, length, map, take, replicate}
use Rattle.gm_value.specs.Numbers.{zero_of}
use Rattle.gm_columns.specs.Cells.{values_of}
use Rattle.gm_machine.specs.Fields.{AreFull}
use Rattle.gm_machine.proofs.fields.FieldColumns.new.Given as goal

abbrev pub invariant-loop-t : goal.invariant-loop-t
invariant-loop-t l = record {
  wide : length l.rows.items ≡ l.t-index;
  full : AreFull l.nodes (map values_of l.rows.items);
  zero : map values_of l.rows.items ≡ map (λ t. replicate l.nodes (zero_of t)) (take l.t-index l.types);
}
