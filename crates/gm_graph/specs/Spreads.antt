-- Rows of columns, and the nodes to which they belong.
use Rattle.std.specs.Prelude.{◌≡◌, ◌≢◌, ◌<◌, ◌⊎◌, ℕ, nat_eq, List, slice_index, slice_index_or, if◌then◌else◌}
use Rattle.gm_value.specs.declared.values.Value.{Value}
use Rattle.gm_value.specs.Numbers.{zero_of}
use Rattle.gm_columns.specs.Columns.{TypedRow}

-- the row below bound that belongs to a number, or 4294967295 where none does
abbrev pub IsRowOf : List ℕ → ℕ → ℕ → ℕ → Type 0
IsRowOf extra bound number row =
    ((row ≡ 4294967295) × ((j : ℕ) → j < bound → slice_index extra j ≢ number))
    ⊎ ((row < bound) × (slice_index extra row ≡ number))

-- a row of a column of some length, or none
abbrev pub HasRow : ℕ → ℕ → Type 0
HasRow len row = (row ≡ 4294967295) ⊎ (row < len)

-- a column's value in a row, or the first value of its type where there is no row
abbrev pub value_in : TypedRow → ℕ → Value
value_in column row = if nat_eq row 4294967295 then zero_of column.vtype else slice_index_or column.values row (zero_of column.vtype)
