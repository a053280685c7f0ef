-- Nodes whose messages wait, and nodes that have taken them in part.
use Rattle.std.specs.Prelude.{◌≡◌, ◌<◌, ℕ, List, [], length, map, slice_index, slice_index_or}
use Rattle.std.specs.List.{range_with_len}
use Rattle.gm_value.specs.declared.values.Value.{Value}
use Rattle.gm_image.specs.Views.{program}
use Rattle.gm_machine.specs.declared.node_steps.Duty.{Duty}
use Rattle.gm_machine.specs.Machine.{inbox}
use Rattle.gm_machine.specs.Steps.{step_after}
use Rattle.gm_machine.specs.Vertex.{Message, After}

-- the messages to each of so many places
abbrev pub boxes_of : List Message → ℕ → List (List Message)
boxes_of messages places = map (inbox messages) (range_with_len 0 places)

-- the step of the node at a place of a list, with the messages to each place and the fields before
abbrev pub node_after : Duty → List ℕ → List (List Message) → List (List Value) → ℕ → After
node_after d nodes boxes fields place =
    step_after (program d.image.now) d.block d.globals.now d.graph.now (slice_index nodes place) (slice_index_or boxes place []) (slice_index_or fields place [])

-- each node has the same step with some messages and fields as with others
abbrev pub AreSameSteps : Duty → List ℕ → List (List Message) → List (List Value) → List (List Message) → List (List Value) → Type 0
AreSameSteps d nodes boxes fields boxes' fields' = (place : ℕ) → place < length nodes → node_after d nodes boxes fields place ≡ node_after d nodes boxes' fields' place
