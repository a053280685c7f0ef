-- Supersteps, as the code runs them.
use Rattle.std.specs.Prelude.{ℕ, List, [], slice_index_or}
use Rattle.gm_value.specs.declared.values.Value.{Value}
use Rattle.gm_image.specs.Views.{program}
use Rattle.gm_machine.specs.declared.node_steps.Duty.{Duty}
use Rattle.gm_machine.specs.declared.supersteps.Nodes as N
use Rattle.gm_machine.specs.Fields.{fields_of}
use Rattle.gm_machine.specs.Machine.{Nodes}
use Rattle.gm_machine.specs.Steps.{step_after}
use Rattle.gm_machine.specs.Vertex.{Message, After}

-- what supersteps change
abbrev pub nodes_of : N.Nodes → Nodes
nodes_of s = record { fields = fields_of s.fields; sent = s.sent; supersteps = s.supersteps; messages = s.messages }

-- the step of each node, with the messages to each node and the fields before
abbrev pub all_after : Duty → List (List Message) → List (List Value) → ℕ → After
all_after d inbox fields node = step_after (program d.image.now) d.block d.globals.now d.graph.now node (slice_index_or inbox node []) (slice_index_or fields node [])
