-- Values folded into others by a reduction, one after another.
use Rattle.std.specs.Prelude.{ℕ, Bool, true, false, List, [], ◌∷◌, Option, Some, slice_index_or, slice_set, if◌then◌else◌}
use Rattle.std.specs.Option.{option_map, option_and_then}
use Rattle.gm_value.specs.declared.values.VType.{VType}
use Rattle.gm_value.specs.declared.values.VType.TheVariants.{I32, I64}
use Rattle.gm_value.specs.declared.values.Value.{Value}
use Rattle.gm_value.specs.declared.reductions.Reduce.{Reduce}
use Rattle.gm_value.specs.declared.reductions.Reduce.TheVariants.{Sum}
use Rattle.gm_value.specs.Numbers.{number_of, type_of, checked}
use Rattle.gm_value.specs.Operations.{same_type}
use Rattle.gm_value.specs.Reductions.{combined, reduces}
use Rattle.gm_kernels.specs.Pointwise.{given, paired}

-- whether values of a type can be folded into held ones of a type: both are of one that the reduction fits, or sums of
-- numbers of 32 bits are held in 64
abbrev pub folds_into : Reduce → VType → VType → Bool
folds_into Sum I64 I32 = true
folds_into r held t = if same_type held t then reduces r t else false

-- a held value combined with one more, as a value of the held one's type, unless the exact result is out of its range
abbrev pub folded : Reduce → Value → Value → Option Value
folded r held v = given (checked (type_of held) (combined r (number_of held) (number_of v)))

-- a list with a value folded into the one at a place
abbrev pub fold_in : Reduce → List Value → ℕ → Value → Option (List Value)
fold_in r xs k v = option_map (λ new. slice_set xs k new) (folded r (slice_index_or xs k v) v)

-- a list with values folded into those at places, one after another, unless one was out of range
abbrev pub folded_at : Reduce → List Value → List ℕ → List Value → Option (List Value)
folded_at r xs (k ∷ ks) (v ∷ vs) = option_and_then (λ next. folded_at r next ks vs) (fold_in r xs k v)
folded_at r xs _ _ = Some xs

-- a held value with others folded into it, one after another, unless one was out of range
abbrev pub folded_all : Reduce → Value → List Value → Option Value
folded_all r held [] = Some held
folded_all r held (v ∷ vs) = option_and_then (λ next. folded_all r next vs) (folded r held v)

-- held values, each with the value beside it folded into it, unless one is out of range
abbrev pub folded_pairs : Reduce → List Value → List Value → Option (List Value)
folded_pairs r = paired (folded r)
