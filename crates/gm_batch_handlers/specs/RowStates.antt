-- What the rows of some messages see and what they change.
use Rattle.std.specs.Prelude.{◌≡◌, ◌<◌, ℕ, true, All, Some, List, [], length, map, slice_index_or}
use Rattle.std.specs.List.{range_with_len}
use Rattle.gm_value.specs.declared.values.Value.{Value}
use Rattle.gm_value.specs.declared.values.Value.TheVariants.{At}
use Rattle.gm_columns.specs.Cells.{values_of}
use Rattle.gm_columns.specs.Columns.{TypedRow, IsStorable}
use Rattle.gm_batches.specs.declared.node_batches.NodeBatch.{NodeBatch}
use Rattle.gm_batches.specs.declared.node_batches.Places.TheVariants as places
use Rattle.gm_machine.specs.Expressions.{View}
use Rattle.gm_machine.specs.Machine.{context_at, row_at}
use Rattle.gm_machine.specs.Vertex.{VertexContext, VertexState, view}
use Rattle.gm_batch_steps.specs.BatchStates.{AreDistinct}
use Rattle.gm_batch_handlers.specs.declared.row_states.RowContext.{RowContext}
use Rattle.gm_batch_handlers.specs.declared.row_states.Chosen.{Chosen}
use Rattle.gm_batch_handlers.specs.Gifts.{Gift, contribution}
use Rattle.gm_batch_handlers.specs.Handling.{all_values}

-- how many rows there are, and the place of the node of a row
abbrev pub row_count : RowContext → ℕ
row_count c = length c.nodes.now

abbrev pub place_of : RowContext → ℕ → ℕ
place_of c row = slice_index_or c.places.now row 0

-- the fields by place
abbrev pub field_columns : RowContext → List (List Value)
field_columns c = map values_of c.fields.now

-- what a row sees: its message
abbrev pub context_in : RowContext → ℕ → VertexContext
context_in c row = record (context_at c.graph.now c.globals.now (slice_index_or c.nodes.now row 0)) { message = row_at (all_values c.message.now) row }

-- what a row has that gave this: the fields of its node, as they were before all messages
abbrev pub row_state : RowContext → List TypedRow → List Gift → ℕ → VertexState
row_state c registers gifts row = record {
  fields = row_at (field_columns c) (place_of c row);
  registers = row_at (all_values registers) row;
  messages = [];
  puts = [];
  folds = map contribution gifts;
}

-- what an expression is evaluated in
abbrev pub view_in : RowContext → List TypedRow → ℕ → View
view_in c registers row = view (context_in c row) (row_state c registers [] row)

-- rows as expressions see them
pub record IsBatchOf (b : NodeBatch) (c : RowContext) (columns : List TypedRow) : Type 0 where
  pub graph : b.graph.now ≡ c.graph.now
  pub globals : b.globals.now ≡ c.globals.now
  pub nodes : b.nodes.now ≡ c.nodes.now
  pub places : b.places ≡ places.At c.places
  pub fields : b.fields.now ≡ c.fields.now
  pub registers : b.registers.now ≡ columns
  pub message : b.message.now ≡ c.message.now

-- fewer than 2^32 rows, each with a node that has a place in memory, a place among the fields, and a value in each column
pub record IsContext (c : RowContext) : Type 0 where
  pub count : row_count c < 4294967296
  pub nodes : All (λ node. IsStorable (At (Some node))) c.nodes.now
  pub places : length c.places.now ≡ row_count c
  pub fields : All (λ cells. All (λ place. place < length (values_of cells)) c.places.now) c.fields.now
  pub message : All (λ column. length column.values ≡ row_count c) c.message.now

-- a value for each row in each register
abbrev pub IsFull : ℕ → List TypedRow → Type 0
IsFull rows registers = All (λ column. length column.values ≡ rows) registers

-- rows of so many, each once; all of them where they are said to be
pub record AreChosen (count : ℕ) (c : Chosen) : Type 0 where
  pub rows_within : All (λ row. row < count) c.rows.now
  pub distinct : AreDistinct c.rows.now
  pub all_rows : c.all ≡ true → c.rows.now ≡ range_with_len 0 count
