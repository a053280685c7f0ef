-- A reduction's unit is its number as a value of the type.
use Rattle.std.proofs.Common.{◌≡◌, ℤ, sym, ap, ◌∙◌}
use Rattle.gm_value.specs.declared.values.VType.{VType}
use Rattle.gm_value.specs.declared.values.Value.{Value}
use Rattle.gm_value.specs.Numbers.{type_of, number_of, value_at}
use Rattle.gm_value.proofs.NumberLaws.{value_at-number_of}

pub unit_is : (v : Value) (t : VType) (z : ℤ) → type_of v ≡ t → number_of v ≡ z → v ≡ value_at t z
unit_is v t z p q = sym (value_at-number_of v) ∙ ap (λ u. value_at u (number_of v)) p ∙ ap (value_at t) q
