-- What the rows of a batch see and what they change.
use Rattle.std.specs.Prelude.{◌≡◌, ◌≢◌, ◌<◌, ℕ, ⊤, true, All, Some, List, [], ◌∷◌, length, map, slice_index_or}
use Rattle.std.specs.List.{AllByRecursion, range_with_len}
use Rattle.gm_value.specs.declared.values.Value.{Value}
use Rattle.gm_value.specs.declared.values.Value.TheVariants.{At}
use Rattle.gm_columns.specs.Cells.{values_of}
use Rattle.gm_columns.specs.Columns.{TypedRow, IsStorable}
use Rattle.gm_machine.specs.Expressions.{View}
use Rattle.gm_machine.specs.Machine.{context_at, row_at}
use Rattle.gm_machine.specs.Taking.{Contribution}
use Rattle.gm_machine.specs.Vertex.{Message, VertexContext, VertexState, view}
use Rattle.gm_message_columns.specs.MessageTables.{rows_if_any}
use Rattle.gm_batches.specs.declared.node_batches.NodeBatch.{NodeBatch}
use Rattle.gm_batches.specs.declared.node_batches.Places.TheVariants.{Between}
use Rattle.gm_batch_steps.specs.declared.batch_states.BatchContext.{BatchContext}
use Rattle.gm_batch_steps.specs.declared.batch_states.BatchState.{BatchState}
use Rattle.gm_batch_steps.specs.declared.batch_states.Chosen.{Chosen}

-- the values of each field, and of each register, by row
abbrev pub field_columns : BatchState → List (List Value)
field_columns s = map values_of s.fields.items

abbrev pub register_columns : BatchState → List (List Value)
register_columns s = map (λ (column : TypedRow). column.values) s.registers.items

-- what a row sees
abbrev pub context_in : BatchContext → ℕ → VertexContext
context_in c row = context_at c.graph.now c.globals.now (slice_index_or c.nodes.now row 0)

-- what a row has that sent and put this
abbrev pub row_state : BatchState → List Message → List Contribution → ℕ → VertexState
row_state s messages puts row = record {
  fields = row_at (field_columns s) row;
  registers = row_at (register_columns s) row;
  messages = messages;
  puts = puts;
  folds = [];
}

-- what an expression is evaluated in
abbrev pub view_in : BatchContext → BatchState → ℕ → View
view_in c s row = view (context_in c row) (row_state s [] [] row)

-- what the rows sent
abbrev pub sent_in : BatchState → List Message
sent_in s = rows_if_any s.sent

-- a batch as expressions see it
pub record IsBatchOf (b : NodeBatch) (c : BatchContext) (s : BatchState) : Type 0 where
  pub graph : b.graph.now ≡ c.graph.now
  pub globals : b.globals.now ≡ c.globals.now
  pub nodes : b.nodes.now ≡ c.nodes.now
  pub places : b.places ≡ Between 0 (length c.nodes.now)
  pub fields : b.fields.now ≡ s.fields.items
  pub registers : b.registers.now ≡ s.registers.items
  pub message : b.message.now ≡ []

-- fewer than 2^32 rows, whose nodes have a place in memory
pub record IsContext (c : BatchContext) : Type 0 where
  pub count : length c.nodes.now < 4294967296
  pub nodes : All (λ node. IsStorable (At (Some node))) c.nodes.now

-- a value for each row in each field and register
pub record IsFull (rows : ℕ) (s : BatchState) : Type 0 where
  pub fields : All (λ values. length values ≡ rows) (field_columns s)
  pub registers : All (λ values. length values ≡ rows) (register_columns s)

-- each number once
abbrev pub AreDistinct : List ℕ → Type 0
AreDistinct [] = ⊤
AreDistinct (row ∷ rows) = AllByRecursion (λ r. r ≢ row) rows × AreDistinct rows

-- rows of a batch of so many, each once; all of them where they are said to be
pub record AreChosen (count : ℕ) (c : Chosen) : Type 0 where
  pub rows_within : All (λ row. row < count) c.rows.now
  pub distinct : AreDistinct c.rows.now
  pub all_rows : c.all ≡ true → c.rows.now ≡ range_with_len 0 count
