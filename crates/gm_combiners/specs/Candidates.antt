-- Which reductions handlers leave as a kind's combiner.
use Rattle.std.specs.Prelude.{◌≡◌, ◌<◌, ℕ, Bool, true, false, Option, Some, None, List, length, slice_index_or}
use Rattle.gm_value.specs.declared.reductions.Reduce.{Reduce}
use Rattle.gm_image.specs.Folds.{same_reduce}
use Rattle.gm_image.specs.Program.{Handler}
use Rattle.gm_combiners.specs.Combiners.{all_let}
use Rattle.gm_combiners.specs.declared.candidates.Candidates.{Candidates}
use Rattle.gm_combiners.specs.declared.candidates.Candidates.TheVariants.{Every, Only, Never}

-- whether a reduction is the one that is there
abbrev pub is_reduce : Option Reduce → Reduce → Bool
is_reduce None r = false
is_reduce (Some s) r = same_reduce r s

-- whether a reduction is among those that are left
abbrev pub leaves : Candidates → Reduce → Bool
leaves Every r = true
leaves (Only s) r = same_reduce r s
leaves Never r = false

-- what is left for a kind of some; behind their end nothing was taken away
abbrev pub left_for : List Candidates → ℕ → Candidates
left_for cs k = slice_index_or cs k Every

-- what is left for each kind is what some handlers let it have
abbrev pub ShowsLeft : List Candidates → List Handler → Type 0
ShowsLeft cs hs = (k : ℕ) (r : Reduce) → k < length cs → leaves (left_for cs k) r ≡ all_let hs k r
