-- The first rows are columns.
use Rattle.std.proofs.Common.{◌≡◌, ◌++◌, map}
use Rattle.gm_columns.specs.TypedRows.{typed_row}
use Rattle.gm_message_columns.proofs.joining.columns_of.Given as goal

abbrev pub invariant-loop-cells : goal.invariant-loop-cells
invariant-loop-cells l = l.columns.items ++ map typed_row l.cells-iterator.rest.items ≡ map typed_row l.fn.rows.items
