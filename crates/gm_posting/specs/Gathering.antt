-- What a worker has gathered for each receiver, and the batches that it has sent of it.
use Rattle.std.specs.Prelude.{◌≡◌, ◌≢◌, ◌<◌, ◌≤◌, ℕ, List, [], ◌∷◌, ◌++◌, length, map, slice_index_or, ◌==◌, if◌then◌else◌}
use Rattle.std.specs.List.{flat_map}
use Rattle.gm_posting.specs.Traffic.{Traffic}

-- items for one receiver, and nothing for the others
abbrev pub only_for : {M : Type 0} → ℕ → List M → ℕ → List M
only_for to more w = (if w == to then more else [])

-- the items at some places, in the order of the places
abbrev pub at_places : {M : Type 0} → List M → List ℕ → M → List M
at_places items places d = map (λ place. slice_index_or items place d) places

-- nothing for anyone
abbrev pub nothing : {M : Type 0} → ℕ → List M
nothing w = []

-- what has gathered for a receiver, where `items` gives the items of a batch
abbrev pub held : {B M : Type 0} → (B → List M) → List B → ℕ → List M
held items gathered to = slice_index_or (map items gathered) to []

-- the batches that a worker has sent to a receiver
abbrev pub sent_by_worker : {B : Type 0} → Traffic B → ℕ → List B
sent_by_worker t to = slice_index_or t.sent to []

-- no batch is empty or has more than 1,024 items
pub record IsSized {B M : Type 0} (items : B → List M) (batch : B) : Type 0 where
  pub some : 1 ≤ length (items batch)
  pub few : length (items batch) ≤ 1024

abbrev pub AreSized : {B M : Type 0} → (B → List M) → List B → Type 0
AreSized items [] = Unit {0}
AreSized items (b ∷ batches) = IsSized items b × AreSized items batches

-- of what had gathered for a receiver and of more items batches were sent, and the rest has gathered
pub record GoesOn {B M : Type 0} (items : B → List M) (before more : List M) (old new : List B) (after : List M) : Type 0 where
  pub batches : List B
  pub sent : new ≡ old ++ batches
  pub whole : flat_map items batches ++ after ≡ before ++ more
  pub sized : AreSized items batches
  pub few : length after < 1024

-- more items for one receiver have gathered behind what was there, and batches of it were sent. To no other anything was sent
pub record GoesTo {B M : Type 0} (items : B → List M) (to : ℕ) (more : List M) (old new : Traffic B) (before after : B) : Type 0 where
  pub kept : record new { sent = [] } ≡ record old { sent = [] }
  pub wide : length new.sent ≡ length old.sent
  pub here : GoesOn items (items before) more (sent_by_worker old to) (sent_by_worker new to) (items after)
  pub others : (w : ℕ) → w ≢ to → sent_by_worker new w ≡ sent_by_worker old w

-- more items, `more to` for each receiver, have gathered behind what was there, and batches of it were sent. Nothing else of the worker has changed
pub record Gathers {B M : Type 0} (items : B → List M) (more : ℕ → List M) (old new : Traffic B) (before after : List B) : Type 0 where
  pub kept : record new { sent = [] } ≡ record old { sent = [] }
  pub wide : length after ≡ length before
  pub wide_sent : length new.sent ≡ length old.sent
  pub each : (to : ℕ) → to < length before → GoesOn items (held items before to) (more to) (sent_by_worker old to) (sent_by_worker new to) (held items after to)

-- fewer than 1,024 items have gathered for each receiver
abbrev pub AreFew : {B M : Type 0} → (B → List M) → List B → Type 0
AreFew items gathered = (to : ℕ) → to < length gathered → length (held items gathered to) < 1024

-- nothing has gathered for so many receivers
pub record NothingGathered {B M : Type 0} (items : B → List M) (workers : ℕ) (gathered : List B) : Type 0 where
  pub wide : length gathered ≡ workers
  pub none : (to : ℕ) → held items gathered to ≡ []
