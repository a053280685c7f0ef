-- Batches of nodes, as the code holds them, and what is seen in each row.
use Rattle.std.specs.Prelude.{◌≡◌, ◌<◌, ◌≤◌, ◌+◌, ℕ, All, Some, List, length, map, slice_index_or}
use Rattle.std.specs.List.{range_with_len}
use Rattle.gm_value.specs.declared.values.Value.TheVariants.{At}
use Rattle.gm_columns.specs.declared.cells.Cells.{Cells}
use Rattle.gm_columns.specs.Cells.{values_of}
use Rattle.gm_columns.specs.Columns.{TypedRow, IsStorable}
use Rattle.gm_machine.specs.Expressions.{View, value_at}
use Rattle.gm_machine.specs.Machine.{nowhere}
use Rattle.gm_batches.specs.declared.node_batches.Places.{Places}
use Rattle.gm_batches.specs.declared.node_batches.Places.TheVariants as places
use Rattle.gm_batches.specs.declared.node_batches.Rows.{Rows}
use Rattle.gm_batches.specs.declared.node_batches.Rows.TheVariants as rows
use Rattle.gm_batches.specs.declared.node_batches.NodeBatch.{NodeBatch}

-- the place of a row
abbrev pub place_at : Places → ℕ → ℕ
place_at (places.Between from to) row = from + row
place_at (places.At numbers) row = slice_index_or numbers.now row 0

-- what is seen in a row of a batch
abbrev pub row_view : NodeBatch → ℕ → View
row_view b row = record {
  graph = b.graph.now;
  globals = b.globals.now;
  node = slice_index_or b.nodes.now row 0;
  fields = map (λ cells. value_at (values_of cells) (place_at b.places row)) b.fields.now;
  registers = map (λ column. value_at column.values row) b.registers.now;
  message = map (λ column. value_at column.values row) b.message.now;
  near = nowhere;
}

-- how many rows a batch has
abbrev pub row_count : NodeBatch → ℕ
row_count b = length b.nodes.now

-- some rows of a batch, one after another
abbrev pub rows_in : NodeBatch → Rows → List ℕ
rows_in b rows.All = range_with_len 0 (row_count b)
rows_in b (rows.At numbers) = numbers.now

-- there is a place for each of so many rows
abbrev pub HasPlaces : ℕ → Places → Type 0
HasPlaces n (places.Between from to) = (from + n ≡ to) × (to < 4294967296)
HasPlaces n (places.At numbers) = length numbers.now ≡ n

-- the places of rows are places of cells
abbrev pub AreWithin : Places → Cells → Type 0
AreWithin (places.Between from to) cells = to ≤ length (values_of cells)
AreWithin (places.At numbers) cells = All (λ place. place < length (values_of cells)) numbers.now

-- a column has a value for each of so many rows
abbrev pub HasRows : ℕ → TypedRow → Type 0
HasRows n column = length column.values ≡ n

-- a batch has fewer than 2^32 rows, a node and a place for each, and a value for each in its columns. Its nodes have a place in memory.
pub record IsBatch (b : NodeBatch) : Type 0 where
  pub count : row_count b < 4294967296
  pub nodes : All (λ node. IsStorable (At (Some node))) b.nodes.now
  pub places : HasPlaces (row_count b) b.places
  pub fields : All (AreWithin b.places) b.fields.now
  pub registers : All (HasRows (row_count b)) b.registers.now
  pub message : All (HasRows (row_count b)) b.message.now

-- rows of a batch
abbrev pub AreRows : NodeBatch → Rows → Type 0
AreRows b r = All (λ row. row < row_count b) (rows_in b r)
