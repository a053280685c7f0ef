-- The handlers of nodes for which messages wait, where the fields lie in columns by place.
use Rattle.std.specs.Prelude.{◌≡◌, ◌<◌, ℕ, List, length, map, slice_index, slice_index_or}
use Rattle.std.specs.List.{range_with_len}
use Rattle.gm_value.specs.declared.values.Value.{Value}
use Rattle.gm_columns.specs.Columns.{TypedRow}
use Rattle.gm_image.specs.Views.{program}
use Rattle.gm_machine.specs.declared.node_steps.Duty.{Duty}
use Rattle.gm_machine.specs.Machine.{block_at, context_at, inbox, row_at}
use Rattle.gm_machine.specs.Vertex.{Message, After, begun, handled, leaves}

-- the values of columns
abbrev pub all_values : List TypedRow → List (List Value)
all_values columns = map (λ column. column.values) columns

-- the message in a row of columns: to which place it goes, and its values
abbrev pub message_in : ℕ → List ℕ → List (List Value) → ℕ → Message
message_in kind to columns row = record { to = slice_index to row; kind = kind; values = row_at columns row }

-- the messages of a kind in columns, row by row
abbrev pub messages_in : ℕ → List ℕ → List (List Value) → List Message
messages_in kind to columns = map (message_in kind to columns) (range_with_len 0 (length to))

-- what the handlers of the node at a place do, whose messages name the place
abbrev pub handled_at : Duty → List ℕ → List Message → List (List Value) → ℕ → After
handled_at d nodes messages columns place =
    handled
    (length (program d.image.now).places)
    (program d.image.now).registers
    (context_at d.graph.now d.globals.now (slice_index_or nodes place 0))
    (block_at (program d.image.now) d.block).handlers
    (inbox messages place)
    (row_at columns place)

-- handlers change the fields alone, and to these: at each place nothing faults, and nothing is sent or put
pub record Handles (d : Duty) (nodes : List ℕ) (messages : List Message) (old new : List (List Value)) : Type 0 where
  pub long : map length new ≡ map length old
  pub each : (place : ℕ) → place < length nodes
      → handled_at d nodes messages old place ≡ leaves (begun (program d.image.now).registers (row_at new place))
