-- A run whose nodes are dealt out among workers, as a state that events change.
use Rattle.std.specs.Prelude.{◌≡◌, ◌+◌, ℕ, nat_eq, nat_lt, nat_le, Bool, true, false, not, ◌&&◌, if◌then◌else◌, Option, Some, None, List, [], ◌∷◌, ◌++◌, length, filter, slice_set, slice_index, slice_index_or}
use Rattle.std.specs.List.{list_all, list_any, range_with_len}
use Rattle.gm_value.specs.declared.values.Value.{Value}
use Rattle.gm_model.specs.declared.outcomes.RunEnd.{RunEnd}
use Rattle.gm_model.specs.Graphs.{NumberedGraph, node_count}
use Rattle.gm_image.specs.Program.{Program}
use Rattle.gm_machine.specs.declared.faults.Fault.{Fault}
use Rattle.gm_machine.specs.Taking.{Contribution}
use Rattle.gm_machine.specs.Faults.{lesser}
use Rattle.gm_machine.specs.Taking.{settled}
use Rattle.gm_machine.specs.Vertex.{Message, After}
use Rattle.gm_machine.specs.Machine.{Control, Pause, Stops, Steps, step_of, block_at}
use Rattle.gm_core.specs.declared.events.Event.{Event}
use Rattle.gm_core.specs.declared.events.Event.TheVariants.{Compute, Deliver, Arrive, Release}
use Rattle.gm_machine.specs.States.{State, pause_after, end_by, after}
use Rattle.gm_core.specs.Mails.{Mail, no_mail, delivered, with_at}

-- the worker that owns a node, by a list with a worker for each node. What is no node is the first worker's
abbrev pub owner : List ℕ → ℕ → ℕ
owner owners node = slice_index owners node

-- the messages to a worker's nodes
abbrev pub for_worker : List ℕ → ℕ → List Message → List Message
for_worker owners w ms = filter (λ m. nat_eq (owner owners m.to) w) ms

-- whether a number is among some
abbrev pub is_in : ℕ → List ℕ → Bool
is_in n ns = list_any (λ m. nat_eq m n) ns

-- the numbers below a number
abbrev pub below : ℕ → List ℕ
below n = range_with_len 0 n

-- a run by workers
pub record Core : Type 0 where
  -- what comes next: a superstep, which is under way, or the end
  pub next : Pause
  -- of each node, new ones where it has computed
  pub fields : List (List Value)
  -- for each worker the messages of the last superstep to its nodes
  pub waiting : ℕ → List Message
  pub supersteps : ℕ
  pub messages : ℕ
  -- since the last release: the nodes that have computed, what they put, their least fault, how many messages they sent, the mail, and who has arrived
  pub computed : List ℕ
  pub puts : List Contribution
  pub fault : Option Fault
  pub sent : ℕ
  pub mail : Mail Message
  pub arrived : ℕ → Bool

-- a worker's messages are not yet delivered
abbrev pub sends : List ℕ → ℕ → List Message → Mail Message → Mail Message
sends owners w ms m = record m { unsent = with_at m.unsent w (λ to. m.unsent w to ++ for_worker owners to ms) }

module _ (p : Program) (g : NumberedGraph) (owners : List ℕ) (workers : ℕ) where
  -- a core that begins a superstep, or has ended
  abbrev pub rested : Pause → List (List Value) → (ℕ → List Message) → ℕ → ℕ → Core
  rested next fields waiting supersteps messages = record {
    next = next;
    fields = fields;
    waiting = waiting;
    supersteps = supersteps;
    messages = messages;
    computed = [];
    puts = [];
    fault = None;
    sent = 0;
    mail = no_mail;
    arrived = λ w. false;
  }

  -- the step of a node, with what waits for it at its worker
  abbrev pub node_step : ℕ → Control → Core → ℕ → ℕ → After
  node_step q c s w n = step_of p g (block_at p q) c.globals (s.waiting w) (n, slice_index_or s.fields n [])

  -- whether a worker has computed all its nodes, and whether it has delivered all its messages
  abbrev pub has_computed : Core → ℕ → Bool
  has_computed s w = list_all (λ n. if nat_eq (owner owners n) w then is_in n s.computed else true) (below (node_count g))

  abbrev pub has_delivered : Core → ℕ → Bool
  has_delivered s w = list_all (λ to. nat_eq (length (s.mail.unsent w to)) 0) (below workers)

  abbrev pub is_legal_by : Pause → Core → Event → Bool
  is_legal_by (Stops how) s e = false
  is_legal_by (Steps left q line c) s (Compute w n) = nat_lt w workers && nat_lt n (node_count g) && nat_eq (owner owners n) w && not (is_in n s.computed)
  is_legal_by (Steps left q line c) s (Deliver from to count) = nat_lt from workers && nat_lt to workers && nat_le 1 count && nat_le count (length (s.mail.unsent from to))
  is_legal_by (Steps left q line c) s (Arrive w) = nat_lt w workers && not (s.arrived w) && has_computed s w && has_delivered s w
  is_legal_by (Steps left q line c) s Release = list_all s.arrived (below workers)

  -- whether an event is legal
  abbrev pub is_legal : Core → Event → Bool
  is_legal s e = is_legal_by s.next s e

  abbrev pub computes : ℕ → Control → ℕ → ℕ → Core → Core
  computes q c w n s =
      let a = node_step q c s w n in
      record s {
        fields = slice_set s.fields n a.state.fields;
        computed = s.computed ++ n ∷ [];
        puts = s.puts ++ a.state.puts;
        fault = lesser s.fault a.fault;
        sent = s.sent + length a.state.messages;
        mail = sends owners w a.state.messages s.mail;
      }

  abbrev pub releases : ℕ → ℕ → Control → Core → Core
  releases left line c s =
      let put = settled (length p.places) s.puts c.globals in
      rested (pause_after p g left line (record c { globals = put.values }) (lesser s.fault put.fault)) s.fields s.mail.incoming (s.supersteps + 1) (s.messages + s.sent)

  abbrev pub effect_by : Pause → Core → Event → Core
  effect_by (Stops how) s e = s
  effect_by (Steps left q line c) s (Compute w n) = computes q c w n s
  effect_by (Steps left q line c) s (Deliver from to count) = record s { mail = delivered from to count s.mail }
  effect_by (Steps left q line c) s (Arrive w) = record s { arrived = with_at s.arrived w true }
  effect_by (Steps left q line c) s Release = releases left line c s

  -- the core after a legal event
  abbrev pub effect : Core → Event → Core
  effect s e = effect_by s.next s e

  -- the core after legal events
  abbrev pub effects : Core → List Event → Core
  effects s [] = s
  effects s (e ∷ es) = effects (effect s e) es

  -- each event is legal after those before it
  abbrev pub AllLegal : Core → List Event → Type 0
  AllLegal s [] = Unit {0}
  AllLegal s (e ∷ es) = (is_legal s e ≡ true) × AllLegal (effect s e) es

  -- the index of the first event that is not legal, if there is one, counted on from a number
  abbrev pub first_illegal : ℕ → Core → List Event → Option ℕ
  first_illegal i s [] = None
  first_illegal i s (e ∷ es) = if is_legal s e then first_illegal (i + 1) (effect s e) es else Some i

  -- the core before any event
  abbrev pub start : List Value → ℕ → Core
  start args turns =
      let s : State = after p g args turns 0 in
      rested s.next s.nodes.fields (λ w. []) 0 0

  -- how the run ended, if it did
  abbrev pub end_of : Core → Option RunEnd
  end_of s = end_by p s.next (record { fields = s.fields; sent = []; supersteps = s.supersteps; messages = s.messages })
