-- The steps of many nodes, as the code takes them.
use Rattle.std.specs.Prelude.{◌≡◌, ℕ, Option, List, [], ◌++◌, map, take, drop, slice_index_or}
use Rattle.std.specs.List.{flat_map}
use Rattle.gm_value.specs.declared.values.Value.{Value}
use Rattle.gm_image.specs.Views.{program}
use Rattle.gm_machine.specs.declared.faults.Fault.{Fault}
use Rattle.gm_machine.specs.declared.node_steps.Round.{Round}
use Rattle.gm_machine.specs.Duties.{node_of, between}
use Rattle.gm_machine.specs.Faults.{lesser, least_fault}
use Rattle.gm_machine.specs.Inboxes.{messages_at}
use Rattle.gm_machine.specs.Machine.{context_at}
use Rattle.gm_machine.specs.Taking.{Contribution}
use Rattle.gm_machine.specs.VertexViews.{code_of}
use Rattle.gm_machine.specs.Vertex.{Message, After, vertex_after}

-- the step of the node at a place
abbrev pub round_after : Round → List (List Value) → ℕ → After
round_after r fields place =
    vertex_after (program r.image.now) (code_of r.code) (context_at r.graph.now r.globals.now (node_of r.nodes place))
    (messages_at r.values.now r.sorted.now r.starts.now place) (slice_index_or fields place [])

-- the steps at the places from one up to another were taken
pub record RunsTo (after : ℕ → After) (from to : ℕ) (old new : List (List Value)) (messages messages' : List Message) (puts puts' : List Contribution) (fault fault' : Option Fault) : Type 0 where
  pub fields : new ≡ take from old ++ (map (λ place. (after place).state.fields) (between from to) ++ drop to old)
  pub sent : messages' ≡ messages ++ flat_map (λ place. (after place).state.messages) (between from to)
  pub put : puts' ≡ puts ++ flat_map (λ place. (after place).state.puts) (between from to)
  pub least : fault' ≡ lesser fault (least_fault (map (λ place. (after place).fault) (between from to)))
