-- The laws of the core.
use Rattle.std.specs.Prelude.{◌≡◌, ◌<◌, ◌≤◌, ℕ, suc, if◌then◌else◌, IsTrue, Option, Some, None, List, [], ◌∷◌, length, slice_index_or}
use Rattle.gm_value.specs.declared.values.Value.{Value}
use Rattle.gm_value.specs.Bag.{SameBag}
use Rattle.gm_model.specs.declared.outcomes.RunEnd.{RunEnd}
use Rattle.gm_model.specs.Graphs.{NumberedGraph, node_count}
use Rattle.gm_image.specs.Program.{Program}
use Rattle.gm_image.specs.Soundness.{is_sound}
use Rattle.gm_machine.specs.Machine.{machine, inbox}
use Rattle.gm_core.specs.declared.events.Event.{Event}
use Rattle.gm_core.specs.declared.events.Event.TheVariants.{Compute, Deliver, Arrive, Release}
use Rattle.gm_machine.specs.States.{State, after, end_by}
use Rattle.gm_core.specs.Mails.{Mail, all_delivered, AreLegal, AreFull, HasAll}
use Rattle.std.specs.List.{flat_map}
use Rattle.std.specs.Prelude.{◌++◌, ◌≢◌}
use Rattle.gm_core.specs.Cores.{Core, owner, for_worker, is_in, rested, effects, AllLegal, start, end_of}

-- each node has an owner among the workers
pub record AreOwners (owners : List ℕ) (nodes workers : ℕ) : Type 0 where
  pub long : length owners ≡ nodes
  pub some : 1 ≤ workers
  pub each : (n : ℕ) → owner owners n < workers

-- a core stands for a state of the machine: all parts are equal, for each worker waits a permutation of the messages to its nodes, and nothing is under way
pub record StandsFor (p : Program) (g : NumberedGraph) (owners : List ℕ) (workers : ℕ) (s : Core) (d : State) : Type 0 where
  pub next : s.next ≡ d.next
  pub fields : s.fields ≡ d.nodes.fields
  pub supersteps : s.supersteps ≡ d.nodes.supersteps
  pub messages : s.messages ≡ d.nodes.messages
  pub waiting : (w : ℕ) → w < workers → SameBag (s.waiting w) (for_worker owners w d.nodes.sent)
  pub rests : s ≡ rested p g owners workers s.next s.fields s.waiting s.supersteps s.messages

-- so each node's inbox is a permutation
abbrev pub InboxesStand : List ℕ → Core → State → Type 0
InboxesStand owners s d = (n : ℕ) → SameBag (inbox (s.waiting (owner owners n)) n) (inbox d.nodes.sent n)

-- how many releases there are among events
abbrev pub released : List Event → ℕ
released [] = 0
released (Compute w n ∷ es) = released es
released (Deliver from to count ∷ es) = released es
released (Arrive w ∷ es) = released es
released (Release ∷ es) = suc (released es)

-- what a core says of its nodes: new fields where they have computed, and else those of the state
abbrev pub FieldsAre : ℕ → Core → State → State → Type 0
FieldsAre nodes s old new = (n : ℕ) → n < nodes → slice_index_or s.fields n [] ≡ slice_index_or (if is_in n s.computed then new.nodes.fields else old.nodes.fields) n []

-- what events come to: the state after as many supersteps as there were releases, with new fields where nodes have computed since, and the end where the machine ends
pub record Reached (p : Program) (g : NumberedGraph) (args : List Value) (turns : ℕ) (owners : List ℕ) (s : Core) (k : ℕ) : Type 0 where
  pub next : s.next ≡ (after p g args turns k).next
  pub step : s.supersteps ≡ k
  pub ended : end_by p s.next (record { fields = s.fields; sent = []; supersteps = s.supersteps; messages = s.messages }) ≡ end_by p (after p g args turns k).next (after p g args turns k).nodes
  pub fields : FieldsAre (node_count g) s (after p g args turns k) (after p g args turns (suc k))

-- legal events come to the state after as many supersteps as they have releases; just after a release the core stands for that state
abbrev pub EventsGoBySupersteps : Type 0
EventsGoBySupersteps = (p : Program) (g : NumberedGraph) (args : List Value) (turns : ℕ) (owners : List ℕ) (workers : ℕ) (es : List Event) →
    IsTrue (is_sound p) → AreOwners owners (node_count g) workers → AllLegal p g owners workers (start p g owners workers args turns) es →
    Reached p g args turns owners (effects p g owners workers (start p g owners workers args turns) es) (released es)

abbrev pub ReleasesStand : Type 0
ReleasesStand = (p : Program) (g : NumberedGraph) (args : List Value) (turns : ℕ) (owners : List ℕ) (workers : ℕ) (es : List Event) →
    IsTrue (is_sound p) → AreOwners owners (node_count g) workers → AllLegal p g owners workers (start p g owners workers args turns) (es ++ Release ∷ []) →
    StandsFor p g owners workers (effects p g owners workers (start p g owners workers args turns) (es ++ Release ∷ [])) (after p g args turns (suc (released es)))

-- legal events come to the end exactly where the machine's run takes no more supersteps than there were releases, and it is that run's end
pub record EndsInTime (end : Option RunEnd) (run : RunEnd) (k : ℕ) : Type 0 where
  pub over : run.supersteps ≤ k → end ≡ Some run
  pub under_way : k < run.supersteps → end ≡ None

abbrev pub EventsEndInTime : Type 0
EventsEndInTime = (p : Program) (g : NumberedGraph) (args : List Value) (turns : ℕ) (owners : List ℕ) (workers : ℕ) (es : List Event) →
    IsTrue (is_sound p) → AreOwners owners (node_count g) workers → AllLegal p g owners workers (start p g owners workers args turns) es →
    EndsInTime (end_of p g owners workers (effects p g owners workers (start p g owners workers args turns) es)) (machine p g args turns) (released es)

-- the deliveries to one worker, read off a list of batches with the numbers of their passes that has all that its senders have for it
pub record Delivers {M : Type 0} (to : ℕ) (xs : List (ℕ × List M)) (m : Mail M) : Type 0 where
  pub legal : AreLegal to xs m
  pub incoming : (all_delivered to xs m).incoming to ≡ m.incoming to ++ flat_map (λ x. x.1) xs
  pub others : (w : ℕ) → w ≢ to → (all_delivered to xs m).incoming w ≡ m.incoming w
  pub none_left : (w : ℕ) → (all_delivered to xs m).unsent w to ≡ []
  pub kept : (w other : ℕ) → other ≢ to → (all_delivered to xs m).unsent w other ≡ m.unsent w other

abbrev pub BatchesAreDelivered : (M : Type 0) → Type 0
BatchesAreDelivered M = (to : ℕ) (xs : List (ℕ × List M)) (m : Mail M) → AreFull xs → HasAll to xs m → Delivers to xs m
