-- The workers of a superstep.
use Rattle.std.specs.Prelude.{◌≡◌, ◌<◌, ◌≤◌, ℕ, None, List, [], ◌++◌, length, map, slice_index, slice_index_or, Vec}
use Rattle.std.specs.List.{flat_map}
use Rattle.std.specs.declared.alloc.Global.{Global}
use Rattle.gm_base.specs.Merge.{of}
use Rattle.gm_model.specs.Graphs.{HasNode}
use Rattle.gm_machine.specs.declared.node_steps.Duty.{Duty}
use Rattle.gm_node_batches.specs.declared.steps.Sent.{Sent}
use Rattle.gm_machine.specs.Faults.{least_fault}
use Rattle.gm_mailbox.specs.Sender.{MailboxId}
use Rattle.gm_posting.specs.Gathering.{AreSized}
use Rattle.gm_core.specs.Cores.{owner, for_worker}
use Rattle.gm_workers.specs.declared.dealing.Dealing.{Dealing}
use Rattle.gm_workers.specs.declared.mail.Mail.{Mail}
use Rattle.gm_workers.specs.declared.crews.Slot.{Slot}
use Rattle.gm_workers.specs.Parts.{items_of, messages_of, PutsStand, slot_step, places_of}

-- a worker's part has the shared duty, dealing and mailboxes, and its nodes have put nothing yet
pub record Shares (d : Duty) (dealing : Dealing) (ids : List MailboxId) (own_d : Duty) (own_dealing : Dealing) (own_ids : List MailboxId) (s : Sent) : Type 0 where
  pub duty : own_d ≡ d
  pub dealing_is : own_dealing ≡ dealing
  pub mailboxes : own_ids ≡ ids
  pub messages : s.messages ≡ []
  pub puts : s.puts ≡ []
  pub fault : s.fault ≡ None

-- workers can do their parts: the nodes of each are the graph's, each has its fields, and each node's owner is one of the workers
pub record CanWork (d : Duty) (dealing : Dealing) (slots : List Slot) : Type 0 where
  pub nodes : (w place : ℕ) (x : Slot) → w < length slots → place < length (slice_index_or slots w x).nodes.items → HasNode d.graph.now (slice_index (slice_index_or slots w x).nodes.items place)
  pub fields : (w : ℕ) (x : Slot) → w < length slots → length (slice_index_or slots w x).fields.rows ≡ length (slice_index_or slots w x).nodes.items
  pub owned : (n : ℕ) → owner dealing.owners.items n < length slots

-- batches stand behind those that wait in a slot, and nothing else of it has changed
pub record WaitsMore (x x' : Slot) (late : List (ℕ × Mail)) : Type 0 where
  pub nodes : x'.nodes ≡ x.nodes
  pub fields : x'.fields ≡ x.fields
  pub waiting : x'.waiting.items ≡ x.waiting.items ++ late

-- so in the slots of the workers below a number, and those of the others are as they were
pub record AddsLate (k : ℕ) (late : List (Vec (ℕ × Mail) Global)) (old new : List Slot) : Type 0 where
  pub long : length new ≡ length old
  pub each : (w : ℕ) (x : Slot) (d : Vec (ℕ × Mail) Global) → w < k → w < length old → WaitsMore (slice_index_or old w x) (slice_index_or new w x) (slice_index_or late w d).items
  pub others : (w : ℕ) (x : Slot) → k ≤ w → slice_index_or new w x ≡ slice_index_or old w x

-- the nodes of a worker have computed
pub record Computed (d : Duty) (dealing : Dealing) (w : ℕ) (x x' : Slot) (s' : Sent) : Type 0 where
  pub nodes : x'.nodes ≡ x.nodes
  pub fields : x'.fields.rows ≡ map (λ place. (slot_step d dealing w x place).state.fields) (places_of x)
  pub puts : PutsStand (slot_step d dealing w x) (places_of x) s'
  pub fault : s'.fault ≡ least_fault (map (λ place. (slot_step d dealing w x place).fault) (places_of x))

-- what waits in a slot from a worker: all that the worker's nodes sent to this one's nodes, in order, in batches of 1 to 1,024 messages
pub record Came (d : Duty) (dealing : Dealing) (from to : ℕ) (sender receiver : Slot) : Type 0 where
  pub messages : flat_map items_of (of receiver.waiting.items from) ≡ for_worker dealing.owners.items to (messages_of (slot_step d dealing from sender) (places_of sender))
  pub sized : AreSized items_of (of receiver.waiting.items from)

-- All workers have done their parts: the nodes of each have computed, and in each slot waits what all workers have sent to it, and nothing from another
pub record Worked (d : Duty) (dealing : Dealing) (old new : List Slot) (sent : List Sent) : Type 0 where
  pub long : length new ≡ length old
  pub many : length sent ≡ length old
  pub computed : (w : ℕ) (x : Slot) (s : Sent) → w < length old → Computed d dealing w (slice_index_or old w x) (slice_index_or new w x) (slice_index_or sent w s)
  pub came : (from to : ℕ) (x : Slot) → from < length old → to < length old → Came d dealing from to (slice_index_or old from x) (slice_index_or new to x)
  pub nobody : (from to : ℕ) (x : Slot) → length old ≤ from → to < length old → of (slice_index_or new to x).waiting.items from ≡ []
