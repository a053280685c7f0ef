-- The reductions, each a commutative monoid on whole numbers, and the closing of a bag into a held value.
use Rattle.std.specs.Prelude.{Bool, true, false, not, ℤ, pos, ◌+ℤ◌, ◌*ℤ◌, List, [], ◌∷◌, Result}
use Rattle.std.specs.Int.{int_min, int_max}
use Rattle.gm_value.specs.declared.values.VType.{VType}
use Rattle.gm_value.specs.declared.values.Value.{Value}
use Rattle.gm_value.specs.declared.faults.FaultKind.{FaultKind}
use Rattle.gm_value.specs.declared.reductions.Reduce.{Reduce}
use Rattle.gm_value.specs.declared.reductions.Reduce.TheVariants.{Sum, Product, Min, Max, And, Or}
use Rattle.gm_value.specs.Numbers.{type_of, number_of, least_of, greatest_of, checked}
use Rattle.gm_value.specs.Operations.{is_numeric, is_flag}

-- two numbers combined: of truth values And is the lesser and Or the greater
abbrev pub combined : Reduce → ℤ → ℤ → ℤ
combined Sum a b = a +ℤ b
combined Product a b = a *ℤ b
combined Min a b = int_min a b
combined Max a b = int_max a b
combined And a b = int_min a b
combined Or a b = int_max a b

-- the unit: the number that leaves each number of the type as it is
abbrev pub unit_of : Reduce → VType → ℤ
unit_of Sum t = pos 0
unit_of Product t = pos 1
unit_of Min t = greatest_of t
unit_of Max t = least_of t
unit_of And t = greatest_of t
unit_of Or t = least_of t

-- a bag's exact total: the unit combined with all members
abbrev pub total : Reduce → VType → List Value → ℤ
total r t [] = unit_of r t
total r t (v ∷ bag) = combined r (number_of v) (total r t bag)

-- the held value combined with a bag's total, or Overflow where the exact result is out of the type's range
abbrev pub close : Reduce → Value → List Value → Result Value FaultKind
close r held bag = checked (type_of held) (combined r (number_of held) (total r (type_of held) bag))

-- whether a reduction picks one of its members, and so never leaves the type
abbrev pub picks : Reduce → Bool
picks Sum = false
picks Product = false
picks Min = true
picks Max = true
picks And = true
picks Or = true

-- whether a reduction fits a type: Sum, Product, Min and Max fit numbers, Max nodes too, And and Or truth values
abbrev pub reduces : Reduce → VType → Bool
reduces Sum t = is_numeric t
reduces Product t = is_numeric t
reduces Min t = is_numeric t
reduces Max t = not (is_flag t)
reduces And t = is_flag t
reduces Or t = is_flag t
