-- A superstep of workers that hand over batches, as events.
use Rattle.std.specs.Prelude.{IsTrue, ◌≡◌, ◌<◌, ℕ, nat_eq, List, [], ◌∷◌, ◌++◌, length, map, filter, slice_index_or}
use Rattle.std.specs.List.{flat_map}
use Rattle.gm_model.specs.Graphs.{NumberedGraph, node_count}
use Rattle.gm_image.specs.Program.{Program}
use Rattle.gm_machine.specs.Vertex.{Message, After}
use Rattle.gm_machine.specs.Machine.{Control, Nodes, Steps}
use Rattle.gm_base.specs.Merge.{of}
use Rattle.gm_core.specs.declared.events.Event.{Event}
use Rattle.gm_core.specs.declared.events.Event.TheVariants.{Compute, Deliver, Arrive, Release}
use Rattle.gm_core.specs.Mails.{flat, pass_worker, AreFull}
use Rattle.gm_core.specs.Cores.{Core, owner, for_worker, below, rested, node_step, effects, AllLegal}
use Rattle.gm_core.specs.Laws.{AreOwners, StandsFor}
use Rattle.gm_machine.specs.States.{next_by}
use Rattle.gm_image.specs.Soundness.{is_sound}

-- each node computes, in ascending order
abbrev pub computes_all : List ℕ → List ℕ → List Event
computes_all owners nodes = map (λ n. Compute (owner owners n) n) nodes

-- the deliveries of the batches that a worker took, each with the number of its pass
abbrev pub deliveries : ℕ → List (ℕ × List Message) → List Event
deliveries to taken = map (λ x. Deliver (pass_worker to x.0) to (length x.1)) taken

-- receiver by receiver
abbrev pub all_deliveries : (ℕ → List (ℕ × List Message)) → List ℕ → List Event
all_deliveries taken workers = flat_map (λ to. deliveries to (taken to)) workers

abbrev pub arrives_all : List ℕ → List Event
arrives_all workers = map (λ w. Arrive w) workers

-- all computes, these deliveries, all arrivals and the release
abbrev pub superstep_events : List ℕ → ℕ → ℕ → List Event → List Event
superstep_events owners nodes workers delivered = computes_all owners (below nodes) ++ (delivered ++ (arrives_all (below workers) ++ Release ∷ []))

-- the nodes of a worker below a number
abbrev pub own : List ℕ → ℕ → ℕ → List ℕ
own owners w a = filter (λ n. nat_eq (owner owners n) w) (below a)

module _ (p : Program) (g : NumberedGraph) (owners : List ℕ) (workers q : ℕ) (c : Control) (s : Core) where
  -- the step of a node from a core that rests
  abbrev pub step : ℕ → After
  step n = node_step p g owners workers q c s (owner owners n) n

  -- what a worker's nodes send to a worker's nodes, node by node in ascending order
  abbrev pub to_send : ℕ → ℕ → List Message
  to_send from to = for_worker owners to (flat_map (λ n. (step n).state.messages) (own owners from (node_count g)))

  -- each worker took batches that are, pass by pass and one after another, what the others had for it
  pub record TakeAll (taken : ℕ → List (ℕ × List Message)) : Type 0 where
    pub full : (to : ℕ) → to < workers → AreFull (taken to)
    pub all : (to : ℕ) → to < workers → (number : ℕ) → flat (of (taken to) number) ≡ to_send (pass_worker to number) to

-- a core that rests before a superstep with a block
pub record IsReady (p : Program) (g : NumberedGraph) (owners : List ℕ) (workers left q line : ℕ) (c : Control) (s : Core) : Type 0 where
  pub next : s.next ≡ Steps left q line c
  pub rests : s ≡ rested p g owners workers s.next s.fields s.waiting s.supersteps s.messages
  pub long : length s.fields ≡ node_count g

-- the events of such a superstep are legal, and come to the nodes' new fields and to what was taken
pub record Supersteps (p : Program) (g : NumberedGraph) (owners : List ℕ) (workers q : ℕ) (c : Control) (s : Core) (taken : ℕ → List (ℕ × List Message)) (es : List Event) : Type 0 where
  pub legal : AllLegal p g owners workers s es
  pub fields : (n : ℕ) → n < node_count g → slice_index_or (effects p g owners workers s es).fields n [] ≡ (step p g owners workers q c s n).state.fields
  pub waiting : (to : ℕ) → to < workers → (effects p g owners workers s es).waiting to ≡ flat_map (λ x. x.1) (taken to)

abbrev pub SuperstepsAreEvents : Type 0
SuperstepsAreEvents = (p : Program) (g : NumberedGraph) (owners : List ℕ) (workers left q line : ℕ) (c : Control) (s : Core) (taken : ℕ → List (ℕ × List Message)) →
    AreOwners owners (node_count g) workers → IsReady p g owners workers left q line c s → TakeAll p g owners workers q c s taken →
    Supersteps p g owners workers q c s taken (superstep_events owners (node_count g) workers (all_deliveries taken (below workers)))

-- where the core stands for a state of the machine, it then stands for the next one
abbrev pub SuperstepsStand : Type 0
SuperstepsStand = (p : Program) (g : NumberedGraph) (owners : List ℕ) (workers left q line : ℕ) (c : Control) (s : Core) (d : Nodes) (taken : ℕ → List (ℕ × List Message)) →
    IsTrue (is_sound p) → AreOwners owners (node_count g) workers → length d.fields ≡ node_count g →
    StandsFor p g owners workers s (record { next = Steps left q line c; nodes = d }) → TakeAll p g owners workers q c s taken →
    StandsFor p g owners workers (effects p g owners workers s (superstep_events owners (node_count g) workers (all_deliveries taken (below workers)))) (next_by p g (Steps left q line c) d)
