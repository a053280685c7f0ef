-- The steps of many nodes in one call.
use Rattle.std.specs.Prelude.{◌≡◌, ◌<◌, ◌≤◌, ◌-◌, ℕ, List, [], ◌++◌, length, map, take, drop, slice_index, slice_index_or}
use Rattle.std.specs.List.{flat_map, range_with_len}
use Rattle.gm_value.specs.declared.values.Value.{Value}
use Rattle.gm_model.specs.Graphs.{NumberedGraph, HasNode}
use Rattle.gm_image.specs.Views.{program}
use Rattle.gm_machine.specs.declared.node_steps.Duty.{Duty}
use Rattle.gm_machine.specs.declared.node_steps.Nodes.{Nodes}
use Rattle.gm_machine.specs.declared.node_steps.Nodes.TheVariants.{All, These}
use Rattle.gm_machine.specs.declared.steps.Sent.{Sent}
use Rattle.gm_machine.specs.Asking.{IsServed}
use Rattle.gm_machine.specs.Faults.{lesser, least_fault}
use Rattle.gm_machine.specs.Fields.{HeldFields}
use Rattle.gm_machine.specs.Masters.{FitsGraph}
use Rattle.gm_machine.specs.Steps.{KeepsFields, step_after}
use Rattle.gm_machine.specs.Vertex.{Message, After}

-- how many nodes there are
abbrev pub places_of : Nodes → ℕ
places_of (All count) = count
places_of (These nodes) = length nodes.now

-- the node at a place
abbrev pub node_of : Nodes → ℕ → ℕ
node_of (All count) place = place
node_of (These nodes) place = slice_index nodes.now place

-- nodes of a graph
abbrev pub AreNodes : NumberedGraph → Nodes → Type 0
AreNodes g nodes = (place : ℕ) → place < places_of nodes → HasNode g (node_of nodes place)

-- a duty that an image asks of a graph: the graph has the image's columns and the rows for which it asks, and the block's handlers
-- set no field
pub record IsDuty (d : Duty) : Type 0 where
  pub columns : FitsGraph d.image.now d.graph.now
  pub served : IsServed (program d.image.now) d.graph.now d.in_rows.now
  pub keeps : KeepsFields (program d.image.now) d.block

-- the step of the node at a place, with the messages to each place and the fields before
abbrev pub place_after : Duty → Nodes → List (List Message) → List (List Value) → ℕ → After
place_after d nodes inbox fields place =
    step_after (program d.image.now) d.block d.globals.now d.graph.now (node_of nodes place) (slice_index_or inbox place []) (slice_index_or fields place [])

-- the places from one up to another
abbrev pub between : ℕ → ℕ → List ℕ
between from to = range_with_len from (to - from)

-- what the steps at the places from one up to another leave: their new fields, where those of other places are kept, and behind what was there what they sent and put, and the least fault
pub record Steps (after : ℕ → After) (from to : ℕ) (old new : HeldFields) (sent sent' : Sent) : Type 0 where
  pub width : new.width ≡ old.width
  pub fields : new.rows ≡ take from old.rows ++ (map (λ place. (after place).state.fields) (between from to) ++ drop to old.rows)
  pub messages : sent'.messages ≡ sent.messages ++ flat_map (λ place. (after place).state.messages) (between from to)
  pub puts : sent'.puts ≡ sent.puts ++ flat_map (λ place. (after place).state.puts) (between from to)
  pub fault : sent'.fault ≡ lesser sent.fault (least_fault (map (λ place. (after place).fault) (between from to)))

-- some steps were taken, from a place on
pub record StepsTo (after : ℕ → After) (from to : ℕ) (old new : HeldFields) (sent sent' : Sent) : Type 0 where
  pub ahead : from < to
  pub within : to ≤ length old.rows
  pub taken : Steps after from to old new sent sent'
