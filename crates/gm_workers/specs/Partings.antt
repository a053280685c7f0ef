-- The messages of a mail, parted by the workers to whose nodes they go.
use Rattle.std.specs.Prelude.{◌≡◌, ◌<◌, ℕ, All, List, length, Vec}
use Rattle.std.specs.declared.alloc.Global.{Global}
use Rattle.gm_machine.specs.Vertex.{Message}
use Rattle.gm_posting.specs.Gathering.{at_places, held}
use Rattle.gm_core.specs.Cores.{for_worker}

-- the places that stand in a worker's list
abbrev pub places_for : List (Vec ℕ Global) → ℕ → List ℕ
places_for parts w = held (λ part. part.items) parts w

-- each worker's list has the places of the messages that go to its nodes, in order
pub record AreParts (owners : List ℕ) (ms : List Message) (parts : List (Vec ℕ Global)) : Type 0 where
  pub within : (w : ℕ) → All (λ row. row < length ms) (places_for parts w)
  pub each : (w : ℕ) (d : Message) → w < length parts → at_places ms (places_for parts w) d ≡ for_worker owners w ms
