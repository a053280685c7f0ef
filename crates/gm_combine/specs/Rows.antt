-- The rows of one kind of messages, as the code holds them.
use Rattle.std.specs.Prelude.{◌≡◌, ◌⊎◌, ℕ, Option, List, length}
use Rattle.gm_value.specs.declared.values.Value.{Value}
use Rattle.gm_value.specs.declared.values.Value.TheVariants as values
use Rattle.gm_value.specs.declared.values.VType.{VType}
use Rattle.gm_value.specs.declared.values.VType.TheVariants as types
use Rattle.gm_value.specs.declared.reductions.Reduce.{Reduce}
use Rattle.gm_value.specs.declared.reductions.Reduce.TheVariants as reduce
use Rattle.gm_value.specs.declared.totals.Total.{Total}
use Rattle.gm_combine.specs.declared.typed_rows.NumberRow.{NumberRow}
use Rattle.gm_combine.specs.declared.typed_rows.NumberRow.TheVariants as rows
use Rattle.gm_combine.specs.declared.typed_rows.TypedRow.{TypedRow}
use Rattle.gm_combine.specs.declared.typed_rows.TypedRow.TheVariants as typed
use Rattle.gm_combine.specs.Cells.{picked, summed, multiplied, AreSums, AreProducts}

-- a row of numbers holds totals by a reduction
abbrev pub Serves : {T : Type 0} → NumberRow T → Reduce → Type 0
Serves (rows.Least row) r = (r ≡ reduce.Min) ⊎ (r ≡ reduce.And)
Serves (rows.Greatest row) r = (r ≡ reduce.Max) ⊎ (r ≡ reduce.Or)
Serves (rows.Sums row) r = r ≡ reduce.Sum
Serves (rows.Products row) r = r ≡ reduce.Product

-- how many places there are
abbrev pub width_of : {T : Type 0} → NumberRow T → ℕ
width_of (rows.Least row) = length row.cells.items
width_of (rows.Greatest row) = length row.cells.items
width_of (rows.Sums row) = length row.low.items
width_of (rows.Products row) = length row.cells.items

-- the totals by place, where values are held as the code's cells
abbrev pub totals : {T : Type 0} → (T → Value) → NumberRow T → ℕ → Option Total
totals value (rows.Least row) = picked value row.cells.items row.marks.items
totals value (rows.Greatest row) = picked value row.cells.items row.marks.items
totals value (rows.Sums row) = summed row.low.items row.carried.items row.marks.items
totals value (rows.Products row) = multiplied row.cells.items row.marks.items

-- the row is in order, and holds so many values at most
abbrev pub Holds : {T : Type 0} → NumberRow T → ℕ → Type 0
Holds (rows.Least row) count = length row.marks.items ≡ length row.cells.items
Holds (rows.Greatest row) count = length row.marks.items ≡ length row.cells.items
Holds (rows.Sums row) count = AreSums count row.low.items row.carried.items row.marks.items
Holds (rows.Products row) count = AreProducts row.cells.items row.marks.items

-- the type of a row's values
abbrev pub type_of_row : TypedRow → VType
type_of_row (typed.Ints row) = types.I32
type_of_row (typed.Longs row) = types.I64
type_of_row (typed.Flags row) = types.Flag
type_of_row (typed.Nodes row) = types.Node

abbrev pub RowServes : TypedRow → Reduce → Type 0
RowServes (typed.Ints row) r = Serves row r
RowServes (typed.Longs row) r = Serves row r
RowServes (typed.Flags row) r = Serves row r
RowServes (typed.Nodes row) r = Serves row r

abbrev pub row_width : TypedRow → ℕ
row_width (typed.Ints row) = width_of row
row_width (typed.Longs row) = width_of row
row_width (typed.Flags row) = width_of row
row_width (typed.Nodes row) = width_of row

abbrev pub row_totals : TypedRow → ℕ → Option Total
row_totals (typed.Ints row) = totals (λ cell. values.I32 cell) row
row_totals (typed.Longs row) = totals (λ cell. values.I64 cell) row
row_totals (typed.Flags row) = totals (λ cell. values.Flag cell) row
row_totals (typed.Nodes row) = totals (λ cell. values.At cell) row

abbrev pub RowHolds : TypedRow → ℕ → Type 0
RowHolds (typed.Ints row) count = Holds row count
RowHolds (typed.Longs row) count = Holds row count
RowHolds (typed.Flags row) count = Holds row count
RowHolds (typed.Nodes row) count = Holds row count
