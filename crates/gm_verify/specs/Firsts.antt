-- By which reduction each slot was reduced first, as the code keeps it.
use Rattle.std.specs.Prelude.{◌≡◌, ◌<◌, ℕ, nat_eq, Option, Some, None, List, [], ◌∷◌, length, map, find, slice_get}
use Rattle.std.specs.HashMap.{get}
use Rattle.gm_image.specs.Views.{target}
use Rattle.gm_image.specs.Parts.{slots_of}
use Rattle.gm_image.specs.Folds as F
use Rattle.gm_image.specs.Folds.{has_slot}
use Rattle.gm_verify.specs.declared.firsts.Reduction.{Reduction}
use Rattle.gm_verify.specs.declared.firsts.Firsts.{Firsts}

abbrev pub reduction_of : Reduction → F.Reduction
reduction_of r = record { reduce = r.reduce; slots = slots_of (map target r.targets.now) }

-- the reduction that is there, if any, as a list
abbrev pub list_of : Option Reduction → List F.Reduction
list_of None = []
list_of (Some r) = reduction_of r ∷ []

-- the reduction at an index, where there is an index
abbrev pub found_at : List F.Reduction → Option ℕ → Option F.Reduction
found_at rs None = None
found_at rs (Some k) = slice_get rs k

-- the code shows some reductions: their list, and for each slot the index of the first that has it
pub record ShowsFirsts (f : Firsts) (rs : List F.Reduction) : Type 0 where
  pub reductions : rs ≡ map reduction_of f.reductions.items
  pub first : (i : ℕ) → find (has_slot i) rs ≡ found_at rs (get nat_eq f.indices i)
  pub within : (i k : ℕ) → get nat_eq f.indices i ≡ Some k → k < length rs
