-- A worker's part in a superstep.
use Rattle.std.specs.Prelude.{◌≡◌, ◌<◌, ◌≤◌, ℕ, None, List, [], ◌++◌, length, map, drop, slice_index, slice_index_or}
use Rattle.std.specs.List.{flat_map, range_with_len}
use Rattle.gm_value.specs.declared.values.Value.{Value}
use Rattle.gm_model.specs.Graphs.{HasNode}
use Rattle.gm_image.specs.Views.{program}
use Rattle.gm_machine.specs.declared.node_steps.Duty.{Duty}
use Rattle.gm_machine.specs.Duties.{between, IsDuty}
use Rattle.gm_machine.specs.Faults.{least_fault}
use Rattle.gm_machine.specs.Machine.{inbox}
use Rattle.gm_machine.specs.Steps.{step_after}
use Rattle.gm_machine.specs.Vertex.{Message, After}
use Rattle.gm_put_totals.specs.Settling.{SettleAs}
use Rattle.gm_node_batches.specs.declared.steps.Sent.{Sent}
use Rattle.gm_mailbox.specs.Sender.{MailboxId}
use Rattle.gm_posting.specs.Traffic.{Traffic}
use Rattle.gm_posting.specs.Gathering.{GoesOn, held, sent_by_worker}
use Rattle.gm_core.specs.Cores.{owner, for_worker}
use Rattle.gm_workers.specs.declared.dealing.Dealing.{Dealing}
use Rattle.gm_workers.specs.declared.mail.Mail.{Mail}
use Rattle.gm_workers.specs.declared.crews.Slot.{Slot}
use Rattle.gm_workers.specs.Dealings.{placed}

-- the messages of a batch
abbrev pub items_of : Mail → List Message
items_of m = m.messages

-- the messages of batches, one batch after another, whoever sent them
abbrev pub messages_in : List (ℕ × Mail) → List Message
messages_in batches = flat_map (λ x. x.1.messages) batches

-- batches were taken, and stand behind those that had come before
pub record Takes (old new : Traffic Mail) (came came' : List (ℕ × Mail)) : Type 0 where
  pub batches : List (ℕ × Mail)
  pub taken : new ≡ record old { taken = old.taken ++ batches }
  pub kept : came' ≡ came ++ batches

-- messages, `more to` for each receiver, have gathered behind what was there, and batches of it were sent; batches were taken
pub record Hands (more : ℕ → List Message) (old new : Traffic Mail) (before after : List Mail) (came came' : List (ℕ × Mail)) : Type 0 where
  pub mailboxes : new.mailboxes ≡ old.mailboxes
  pub worker : new.worker ≡ old.worker
  pub wide : length after ≡ length before
  pub wide_sent : length new.sent ≡ length old.sent
  pub each : (to : ℕ) → to < length before → GoesOn items_of (held items_of before to) (more to) (sent_by_worker old to) (sent_by_worker new to) (held items_of after to)
  pub batches : List (ℕ × Mail)
  pub taken : new.taken ≡ old.taken ++ batches
  pub kept : came' ≡ came ++ batches

-- the step of the node at a place of a list, with the messages to each place and the fields before
abbrev pub step_at : Duty → List ℕ → List (List Message) → List (List Value) → ℕ → After
step_at d nodes boxes fields place =
    step_after (program d.image.now) d.block d.globals.now d.graph.now (slice_index nodes place) (slice_index_or boxes place []) (slice_index_or fields place [])

-- what is put settles as what the nodes at some places put
abbrev pub PutsStand : (ℕ → After) → List ℕ → Sent → Type 0
PutsStand after places s = SettleAs (flat_map (λ place. (after place).state.puts) places) s.puts

abbrev pub messages_of : (ℕ → After) → List ℕ → List Message
messages_of after places = flat_map (λ place. (after place).state.messages) places

-- how far a worker's part has come: its nodes below a place have computed, and what they sent was dealt out
pub record PartTo (d : Duty) (owners nodes : List ℕ) (boxes : List (List Message)) (k : ℕ) (fields fields' : List (List Value)) (old new : Traffic Mail) (before after : List Mail) (came came' : List (ℕ × Mail)) (s : Sent) : Type 0 where
  pub within : k ≤ length fields
  pub fields_are : fields' ≡ map (λ place. (step_at d nodes boxes fields place).state.fields) (between 0 k) ++ drop k fields
  pub hands : Hands (λ to. for_worker owners to (messages_of (step_at d nodes boxes fields) (between 0 k))) old new before after came came'
  pub none : s.messages ≡ []
  pub puts : PutsStand (step_at d nodes boxes fields) (between 0 k) s
  pub fault : s.fault ≡ least_fault (map (λ place. (step_at d nodes boxes fields place).fault) (between 0 k))

-- all nodes have computed, all that they sent has gone out, and batches were taken
pub record IsDone (d : Duty) (owners nodes : List ℕ) (boxes : List (List Message)) (fields fields' : List (List Value)) (old new : Traffic Mail) (before : List Mail) (came came' : List (ℕ × Mail)) (s : Sent) : Type 0 where
  pub fields_are : fields' ≡ map (λ place. (step_at d nodes boxes fields place).state.fields) (between 0 (length nodes))
  pub mailboxes : new.mailboxes ≡ old.mailboxes
  pub worker : new.worker ≡ old.worker
  pub each : (to : ℕ) → to < length before →
      GoesOn items_of (held items_of before to) (for_worker owners to (messages_of (step_at d nodes boxes fields) (between 0 (length nodes)))) (sent_by_worker old to) (sent_by_worker new to) []
  pub batches : List (ℕ × Mail)
  pub taken : new.taken ≡ old.taken ++ batches
  pub kept : came' ≡ came ++ batches
  pub puts : PutsStand (step_at d nodes boxes fields) (between 0 (length nodes)) s
  pub fault : s.fault ≡ least_fault (map (λ place. (step_at d nodes boxes fields place).fault) (between 0 (length nodes)))

-- the messages that wait for a worker's nodes, by their places
abbrev pub boxes_of : Dealing → ℕ → Slot → List (List Message)
boxes_of d w x = map (inbox (map (placed d w) (messages_in x.waiting.items))) (range_with_len 0 (length x.nodes.items))

-- the step of a worker's node, by its place among the worker's nodes
abbrev pub slot_step : Duty → Dealing → ℕ → Slot → ℕ → After
slot_step d dealing w x = step_at d x.nodes.items (boxes_of dealing w x) x.fields.rows

-- the places of a worker's nodes
abbrev pub places_of : Slot → List ℕ
places_of x = between 0 (length x.nodes.items)

-- a worker is ready for its part
pub record IsReady (d : Duty) (dealing : Dealing) (ids : List MailboxId) (x : Slot) (t : Traffic Mail) (s : Sent) : Type 0 where
  pub duty : IsDuty d
  pub nodes : (place : ℕ) → place < length x.nodes.items → HasNode d.graph.now (slice_index x.nodes.items place)
  pub fields : length x.fields.rows ≡ length x.nodes.items
  pub mailboxes : t.mailboxes ≡ ids
  pub owned : (n : ℕ) → owner dealing.owners.items n < length ids
  pub messages : s.messages ≡ []
  pub puts : s.puts ≡ []
  pub fault : s.fault ≡ None

-- All nodes of a worker have computed. All that they sent has gone to the workers that own the nodes to which it goes, in batches of at most
-- 1,024 messages, and the batches that were taken stand in the slot
pub record Did (d : Duty) (dealing : Dealing) (x x' : Slot) (t t' : Traffic Mail) (s' : Sent) : Type 0 where
  pub nodes : x'.nodes ≡ x.nodes
  pub fields : x'.fields.rows ≡ map (λ place. (slot_step d dealing t.worker x place).state.fields) (places_of x)
  pub mailboxes : t'.mailboxes ≡ t.mailboxes
  pub worker : t'.worker ≡ t.worker
  pub sent : (to : ℕ) → to < length t.mailboxes →
      GoesOn items_of [] (for_worker dealing.owners.items to (messages_of (slot_step d dealing t.worker x) (places_of x))) (sent_by_worker t to) (sent_by_worker t' to) []
  pub taken : t'.taken ≡ t.taken ++ x'.waiting.items
  pub puts : PutsStand (slot_step d dealing t.worker x) (places_of x) s'
  pub fault : s'.fault ≡ least_fault (map (λ place. (slot_step d dealing t.worker x place).fault) (places_of x))
