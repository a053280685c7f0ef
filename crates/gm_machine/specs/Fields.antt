-- The fields of all nodes, as the code holds them: a column of values, by node, for each field.
use Rattle.std.specs.Prelude.{◌≡◌, ℕ, All, List, [], ◌∷◌, length, map, slice_set}
use Rattle.std.specs.List.{range_with_len}
use Rattle.gm_value.specs.declared.values.Value.{Value}
use Rattle.gm_machine.specs.declared.fields.FieldColumns.{FieldColumns}
use Rattle.gm_columns.specs.Cells.{values_of}
use Rattle.gm_machine.specs.Machine.{row_at}

-- the values of each node, of columns
abbrev pub by_node : ℕ → List (List Value) → List (List Value)
by_node nodes columns = map (row_at columns) (range_with_len 0 nodes)

-- columns with a value for each node
abbrev pub AreFull : ℕ → List (List Value) → Type 0
AreFull nodes columns = All (λ values. length values ≡ nodes) columns

-- columns after new values of a node, one in each column
abbrev pub with_row : List (List Value) → ℕ → List Value → List (List Value)
with_row [] node values = []
with_row (c ∷ columns) node [] = c ∷ columns
with_row (c ∷ columns) node (v ∷ values) = slice_set c node v ∷ with_row columns node values

-- the columns that are held
abbrev pub columns_of : FieldColumns → List (List Value)
columns_of f = map values_of f.rows.items

-- the fields of each node
abbrev pub fields_of : FieldColumns → List (List Value)
fields_of f = by_node f.nodes (columns_of f)

-- a row for each of so many fields, with a value for each node
pub record IsFull (fields : ℕ) (f : FieldColumns) : Type 0 where
  pub wide : length f.rows.items ≡ fields
  pub full : AreFull f.nodes (columns_of f)

-- the fields of some nodes, as contracts see them: how many fields each node has, and those of each node by its place
pub record HeldFields : Type 0 where
  pub width : ℕ
  pub rows : List (List Value)

-- the fields in columns, as contracts see them
abbrev pub held : FieldColumns → HeldFields
held f = record { width = length f.rows.items; rows = fields_of f }
