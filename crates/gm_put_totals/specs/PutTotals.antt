-- What the values of a column give to one slot, as few contributions.
use Rattle.std.specs.Prelude.{ℕ, Option, Some, None, List, [], ◌∷◌, map, if◌then◌else◌}
use Rattle.gm_value.specs.declared.values.VType.{VType}
use Rattle.gm_value.specs.declared.values.VType.TheVariants.{I64}
use Rattle.gm_value.specs.declared.values.Value.{Value}
use Rattle.gm_value.specs.declared.reductions.Reduce.{Reduce}
use Rattle.gm_value.specs.declared.reductions.Reduce.TheVariants.{Sum}
use Rattle.gm_value.specs.Numbers.{value_at}
use Rattle.gm_value.specs.Reductions.{unit_of}
use Rattle.gm_kernels.specs.Folding.{folds_into, folded_all}
use Rattle.gm_machine.specs.Taking.{Contribution}

-- what a line at a place gives to one slot with a value, and with each of some values
abbrev pub single_put : ℕ → Reduce → ℕ → Value → Contribution
single_put place r slot v = record { place = place; reduce = r; slots = slot ∷ []; values = v ∷ [] }

abbrev pub single_puts : ℕ → Reduce → ℕ → List Value → List Contribution
single_puts place r slot values = map (single_put place r slot) values

-- the type in which values of a type are reduced: sums have 64 bits
abbrev pub total_type : Reduce → VType → VType
total_type Sum t = I64
total_type r t = t

-- the value to which a reduction that fits a type reduces values of it, beginning with its unit, unless it leaves the type of the total on the way
abbrev pub reduced_value : Reduce → VType → List Value → Option Value
reduced_value r t values = if folds_into r (total_type r t) t then folded_all r (value_at (total_type r t) (unit_of r (total_type r t))) values else None

-- one contribution, where there is a value for it, or one for each value
abbrev pub one_or_each : ℕ → Reduce → ℕ → List Value → Option Value → List Contribution
one_or_each place r slot values (Some v) = single_put place r slot v ∷ []
one_or_each place r slot values None = single_puts place r slot values

-- nothing without values, else one contribution with the reduced value, or one for each value where that is in no range
abbrev pub reduced_puts : ℕ → Reduce → ℕ → VType → List Value → List Contribution
reduced_puts place r slot t [] = []
reduced_puts place r slot t (v ∷ values) = one_or_each place r slot (v ∷ values) (reduced_value r t (v ∷ values))
