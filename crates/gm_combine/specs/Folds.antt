-- Rows of totals to which numbers are added, one after another.
use Rattle.std.specs.Prelude.{◌<◌, ◌+◌, ◌^◌, ℕ, ℤ, Option, List, [], ◌∷◌}
use Rattle.gm_value.specs.declared.reductions.Reduce.{Reduce}
use Rattle.gm_value.specs.declared.totals.Total.{Total}
use Rattle.gm_combine.specs.Totals.{ShowsTotal, more_at, all_at}

-- numbers with their places, as far as both lists go
abbrev pub placed : List ℕ → List ℤ → List (ℕ × ℤ)
placed [] numbers = []
placed (place ∷ places) [] = []
placed (place ∷ places) (number ∷ numbers) = (place, number) ∷ placed places numbers

-- totals by place, after one more number came to a place: whatever they showed, they show it with that number
abbrev pub AddsOne : Reduce → (ℕ → Option Total) → (ℕ × ℤ) → (ℕ → Option Total) → Type 0
AddsOne r old came new = (place : ℕ) (exact : Option ℤ) → ShowsTotal r (old place) exact → ShowsTotal r (new place) (more_at r place came exact)

-- totals by place, after numbers came to places
abbrev pub AddsAll : Reduce → (ℕ → Option Total) → List (ℕ × ℤ) → (ℕ → Option Total) → Type 0
AddsAll r old came new = (place : ℕ) (exact : Option ℤ) → ShowsTotal r (old place) exact → ShowsTotal r (new place) (all_at r place came exact)

-- a row has room for so many more values: with them it holds fewer than 2 ^ 62
abbrev pub HasRoomFor : ℕ → (ℕ → Type 0) → Type 0
HasRoomFor more Holds = (count : ℕ) × ((count + more < 2 ^ 62) × Holds count)
