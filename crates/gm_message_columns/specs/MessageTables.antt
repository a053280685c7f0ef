-- Messages of one kind in columns.
use Rattle.std.specs.Prelude.{◌≡◌, ℕ, All, Option, Some, None, List, [], ◌∷◌, ◌++◌, length, map, slice_index}
use Rattle.std.specs.List.{range_with_len}
use Rattle.gm_value.specs.declared.values.VType.{VType}
use Rattle.gm_value.specs.declared.values.Value.{Value}
use Rattle.gm_columns.specs.Columns.{TypedRow}
use Rattle.gm_machine.specs.Expressions.{value_at}
use Rattle.gm_machine.specs.Machine.{row_at}
use Rattle.gm_machine.specs.Vertex.{Message}

-- messages of one kind in columns: their kind, to which node each goes, and a column for each value
pub record MessageTable : Type 0 where
  pub kind : ℕ
  pub to : List ℕ
  pub columns : List TypedRow

-- each column has a value for each of so many messages
abbrev pub HaveRows : ℕ → List TypedRow → Type 0
HaveRows rows columns = All (λ column. length column.values ≡ rows) columns

-- the values in a row of columns, and the types of columns
abbrev pub row_values : List TypedRow → ℕ → List Value
row_values columns row = row_at (map (λ column. column.values) columns) row

abbrev pub types_of : List TypedRow → List VType
types_of columns = map (λ column. column.vtype) columns

-- the message in a row, as one to another node, and the messages row by row
abbrev pub message_at : MessageTable → ℕ → Message
message_at t row = record { to = slice_index t.to row; kind = t.kind; values = row_values t.columns row }

abbrev pub message_to : ℕ → MessageTable → ℕ → Message
message_to to t row = record { to = to; kind = t.kind; values = row_values t.columns row }

abbrev pub message_rows : MessageTable → List Message
message_rows t = map (message_at t) (range_with_len 0 (length t.to))

-- the messages in columns, where there are some
abbrev pub rows_if_any : Option MessageTable → List Message
rows_if_any None = []
rows_if_any (Some t) = message_rows t

-- messages, each as one to the node beside it
abbrev pub directed : List ℕ → List Message → List Message
directed (n ∷ nodes) (m ∷ ms) = record m { to = n } ∷ directed nodes ms
directed nodes _ = []

-- messages of one kind whose values have the same types
pub record OfOneSort (t u : MessageTable) : Type 0 where
  pub kind : t.kind ≡ u.kind
  pub types : types_of t.columns ≡ types_of u.columns

-- columns, each with values of its own behind its values
abbrev pub joined : List TypedRow → List (List Value) → List TypedRow
joined (column ∷ columns) (values ∷ more) = record column { values = column.values ++ values } ∷ joined columns more
joined columns _ = columns

-- the values of columns, and those in one row, each in a list of its own
abbrev pub all_values : List TypedRow → List (List Value)
all_values columns = map (λ column. column.values) columns

abbrev pub values_in_row : List TypedRow → ℕ → List (List Value)
values_in_row columns row = map (λ column. value_at column.values row ∷ []) columns

-- columns of the same types with some of the rows, in an order
abbrev pub picked_rows : List TypedRow → List ℕ → List TypedRow
picked_rows columns rows = map (λ column. let some : TypedRow = record column { values = map (value_at column.values) rows } in some) columns

-- columns of the same types with no row
abbrev pub emptied : List TypedRow → List TypedRow
emptied columns = map (λ column. let none : TypedRow = record column { values = [] } in none) columns
