-- The rows of a column of one type, and finished values.
use Rattle.std.specs.Prelude.{List, map}
use Rattle.gm_value.specs.declared.values.Value.{Value}
use Rattle.gm_value.specs.declared.values.VType.TheVariants.{I32, I64, Flag, Node}
use Rattle.gm_value.specs.declared.values.Value.TheVariants.{I32, I64, Flag}
use Rattle.gm_columns.specs.declared.columns.TypedCells.{TypedCells}
use Rattle.gm_columns.specs.declared.columns.TypedCells.TheVariants.{Ints, Longs, Flags, Nodes}
use Rattle.gm_columns.specs.declared.columns.Finished.{Finished}
use Rattle.gm_columns.specs.declared.columns.Finished.TheVariants.{Typed, Mixed}
use Rattle.gm_columns.specs.Columns.{TypedRow}
use Rattle.gm_columns.specs.Cells.{node_in}

-- a column's type and values
abbrev pub typed_row : TypedCells → TypedRow
typed_row (Ints cells) = record { vtype = I32; values = map (λ z. I32 z) cells.items }
typed_row (Longs cells) = record { vtype = I64; values = map (λ z. I64 z) cells.items }
typed_row (Flags cells) = record { vtype = Flag; values = map (λ b. Flag b) cells.items }
typed_row (Nodes cells) = record { vtype = Node; values = map node_in cells.items }

-- the values of a finished list
abbrev pub finished_values : Finished → List Value
finished_values (Typed column) = column.values
finished_values (Mixed values) = values.items
