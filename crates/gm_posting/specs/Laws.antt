-- The law of what workers send each other.
use Rattle.std.specs.Prelude.{◌≡◌, ◌<◌, ℕ, List, [], ◌++◌, length, slice_index_or, Vec}
use Rattle.std.specs.List.{flat_map}
use Rattle.std.specs.declared.alloc.Global.{Global}
use Rattle.gm_base.specs.Merge.{of}
use Rattle.gm_posting.specs.Traffic.{Traffic, sent_to, taken_by, ArriveAll}
use Rattle.gm_posting.specs.Gathering.{AreSized, GoesOn}

-- the batches that came to a worker, early and late, from one sender
abbrev pub came_from : {B : Type 0} → List (Traffic B) → List (Vec (ℕ × B) Global) → ℕ → Vec (ℕ × B) Global → ℕ → List B
came_from workers late to d from = of (taken_by workers to ++ (slice_index_or late to d).items) from

-- Where all items that each worker put for each went out in batches, and the mailboxes were closed, what came to a worker from a sender are
-- the items that were put, in order, and no batch is empty or has more than 1,024
abbrev pub PutsArrive : {B M : Type 0} → (B → List M) → Type 0
PutsArrive {B} {M} items = (workers : List (Traffic B)) (late : List (Vec (ℕ × B) Global)) (put : ℕ → ℕ → List M) → ArriveAll workers late →
    ((from to : ℕ) → from < length workers → to < length workers → GoesOn items [] (put from to) [] (sent_to workers to from) []) →
    (from to : ℕ) (d : Vec (ℕ × B) Global) → from < length workers → to < length workers →
    (flat_map items (came_from workers late to d from) ≡ put from to) × AreSized items (came_from workers late to d from)
