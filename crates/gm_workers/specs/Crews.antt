-- All workers between supersteps.
use Rattle.std.specs.Prelude.{◌≡◌, ◌<◌, ◌≤◌, ◌+◌, ℕ, Option, List, [], ◌∷◌, ◌++◌, length, map, slice_index_or}
use Rattle.gm_value.specs.declared.values.Value.{Value}
use Rattle.gm_value.specs.Bag.{SameBag}
use Rattle.gm_model.specs.Graphs.{NumberedGraph, node_count}
use Rattle.gm_image.specs.Program.{Program}
use Rattle.gm_machine.specs.declared.faults.Fault.{Fault}
use Rattle.gm_machine.specs.Machine.{Control, Nodes, Stepped, start_fields}
use Rattle.gm_core.specs.declared.events.Event.{Event}
use Rattle.gm_core.specs.declared.events.Event.TheVariants.{Deliver}
use Rattle.gm_core.specs.Cores.{Core, owner, for_worker, effects, AllLegal}
use Rattle.gm_core.specs.Supersteps.{own, superstep_events, IsReady}
use Rattle.gm_workers.specs.declared.dealing.Dealing.{Dealing}
use Rattle.gm_workers.specs.declared.mail.Mail.{Mail}
use Rattle.gm_workers.specs.declared.crews.Slot.{Slot}
use Rattle.gm_workers.specs.Dealings.{place_in, place_for, IsDealt}
use Rattle.gm_workers.specs.Parts.{messages_in}

-- a worker's nodes, the fields of its nodes, and the batches that wait for them
abbrev pub nodes_at : List Slot → ℕ → List ℕ
nodes_at slots w = slice_index_or (map (λ x. x.nodes.items) slots) w []

abbrev pub rows_at : List Slot → ℕ → List (List Value)
rows_at slots w = slice_index_or (map (λ x. x.fields.rows) slots) w []

abbrev pub batches_at : List Slot → ℕ → List (ℕ × Mail)
batches_at slots w = slice_index_or (map (λ x. x.waiting.items) slots) w []

-- the fields of a node: those at its place among its owner's nodes
abbrev pub fields_at : List ℕ → List Slot → ℕ → List Value
fields_at owners slots n = slice_index_or (rows_at slots (owner owners n)) (place_in owners n) []

-- So many workers share out so many nodes: each has its own nodes, in ascending order, and fields for each of them
pub record IsCrew (nodes workers : ℕ) (dealing : Dealing) (slots : List Slot) : Type 0 where
  pub dealt : IsDealt nodes workers dealing
  pub few : workers ≤ 64
  pub count : length slots ≡ workers
  pub nodes_are : (w : ℕ) → w < workers → nodes_at slots w ≡ own dealing.owners.items w nodes
  pub wide : (w : ℕ) → w < workers → length (rows_at slots w) ≡ length (nodes_at slots w)

-- a node stands at its place among its owner's nodes
pub record HasSlot (dealing : Dealing) (slots : List Slot) (n : ℕ) : Type 0 where
  pub worker : owner dealing.owners.items n < length slots
  pub place : place_for dealing (owner dealing.owners.items n) n ≡ place_in dealing.owners.items n
  pub within : place_in dealing.owners.items n < length (rows_at slots (owner dealing.owners.items n))

-- workers show a core: each node has its fields, and for each worker waits what waits for it in the core
pub record Shows (nodes : ℕ) (owners : List ℕ) (slots : List Slot) (s : Core) : Type 0 where
  pub fields : (n : ℕ) → n < nodes → fields_at owners slots n ≡ slice_index_or s.fields n []
  pub waiting : (w : ℕ) → w < length slots → messages_in (batches_at slots w) ≡ s.waiting w

-- workers stand for the nodes of a run on one thread: each node has its fields, and for each worker wait the messages to its nodes, in some order
pub record StandFor (nodes : ℕ) (owners : List ℕ) (slots : List Slot) (d : Nodes) : Type 0 where
  pub long : length d.fields ≡ nodes
  pub fields : (n : ℕ) → n < nodes → fields_at owners slots n ≡ slice_index_or d.fields n []
  pub waiting : (w : ℕ) → w < length slots → SameBag (messages_in (batches_at slots w)) (for_worker owners w d.sent)

-- so many workers before the first superstep
pub record AreFirst (p : Program) (g : NumberedGraph) (owners : List ℕ) (workers : ℕ) (slots : List Slot) : Type 0 where
  pub count : length slots ≡ workers
  pub nodes_are : (w : ℕ) → w < workers → nodes_at slots w ≡ own owners w (node_count g)
  pub rows_are : (w : ℕ) → w < workers → rows_at slots w ≡ map (λ n. start_fields p g (n, n)) (own owners w (node_count g))
  pub none_wait : (w : ℕ) → w < workers → batches_at slots w ≡ []

-- one delivery for each batch that waits for a worker, in the order in which they came
abbrev pub deliveries_to : ℕ → Slot → List Event
deliveries_to to x = map (λ b. Deliver b.0 to (length b.1.messages)) x.waiting.items

-- those of workers from a number on, receiver by receiver
abbrev pub deliveries_from : ℕ → List Slot → List Event
deliveries_from to [] = []
deliveries_from to (x ∷ xs) = deliveries_to to x ++ deliveries_from (to + 1) xs

-- a delivery of 1 to 1,024 messages
abbrev pub IsSmall : Event → Type 0
IsSmall (Deliver from to count) = (1 ≤ count) × (count ≤ 1024)
IsSmall e = ⊥

abbrev pub AreSmall : List Event → Type 0
AreSmall [] = Unit {0}
AreSmall (e ∷ es) = IsSmall e × AreSmall es

-- these events take the core that workers show to the one that they show afterwards, and each of them is legal
pub record GoByEvents (p : Program) (g : NumberedGraph) (owners : List ℕ) (workers : ℕ) (es : List Event) (old new : List Slot) (s : Core) : Type 0 where
  pub legal : AllLegal p g owners workers s es
  pub show : Shows (node_count g) owners new (effects p g owners workers s es)

-- so in each superstep of a core that rests, with these globals
abbrev pub GoBySuperstep : Program → NumberedGraph → ℕ → List Value → List ℕ → List Event → List Slot → List Slot → Type 0
GoBySuperstep p g q globals owners delivered old new =
    (left line : ℕ) (c : Control) (s : Core) → c.globals ≡ globals → IsReady p g owners (length old) left q line c s → Shows (node_count g) owners old s →
    GoByEvents p g owners (length old) (superstep_events owners (node_count g) (length old) delivered) old new s

-- workers stand for what a superstep of the run on one thread leaves, with the same globals, fault and count of messages
pub record StandForStep (nodes : ℕ) (owners : List ℕ) (slots : List Slot) (globals : List Value) (messages : ℕ) (fault : Option Fault) (t : Stepped) : Type 0 where
  pub stand : StandFor nodes owners slots t.nodes
  pub globals_are : globals ≡ t.globals
  pub messages_are : messages ≡ length t.nodes.sent
  pub fault_is : fault ≡ t.fault
