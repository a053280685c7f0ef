-- The operations, each computed exactly on whole numbers, and the types that fit them.
use Rattle.std.specs.Prelude.{Bool, true, false, IsTrue, not, ℤ, pos, ◌+ℤ◌, ◌-ℤ◌, ◌*ℤ◌, neg_ℤ, Result, Ok, Err, if◌then◌else◌, int_lt, int_le, int_div, int_rem}
use Rattle.std.specs.Ordering.{int_eq}
use Rattle.gm_value.specs.declared.values.VType.{VType}
use Rattle.gm_value.specs.declared.values.VType.TheVariants.{I32, I64, Flag, Node}
use Rattle.gm_value.specs.declared.values.Value.{Value}
use Rattle.gm_value.specs.declared.values.Value.TheVariants.{I32, I64, Flag}
use Rattle.gm_value.specs.declared.faults.FaultKind.{FaultKind}
use Rattle.gm_value.specs.declared.faults.FaultKind.TheVariants.{DivideByZero}
use Rattle.gm_value.specs.declared.operations.Op1.{Op1}
use Rattle.gm_value.specs.declared.operations.Op1.TheVariants.{Neg, Not, ToI32, ToI64}
use Rattle.gm_value.specs.declared.operations.Op2.{Op2}
use Rattle.gm_value.specs.declared.operations.Op2.TheVariants.{Add, Sub, Mul, Div, Rem, Eq, Ne, Lt, Le, Gt, Ge}
use Rattle.gm_value.specs.Numbers.{type_of, number_of, checked}

-- whether a truth value is True: its number is above 0
abbrev pub is_true : Value → Bool
is_true v = int_lt (pos 0) (number_of v)

-- the answer, or the fault where the divisor is 0
abbrev pub unless_zero : ℤ → Result Value FaultKind → Result Value FaultKind
unless_zero z answer = if int_eq z (pos 0) then Err DivideByZero else answer

-- what an operation on one value gives. ToI64 has no fault, since each number of a value fits 64 bits.
abbrev pub result1 : Op1 → Value → Result Value FaultKind
result1 Neg a = checked (type_of a) (neg_ℤ (number_of a))
result1 Not a = Ok (Flag (not (is_true a)))
result1 ToI32 a = checked I32 (number_of a)
result1 ToI64 a = Ok (I64 (number_of a))

-- what an operation on two values gives. `int_div` cuts the quotient toward zero, and `int_rem` leaves what the dividend has beyond it.
abbrev pub result2 : Op2 → Value → Value → Result Value FaultKind
result2 Add a b = checked (type_of a) (number_of a +ℤ number_of b)
result2 Sub a b = checked (type_of a) (number_of a -ℤ number_of b)
result2 Mul a b = checked (type_of a) (number_of a *ℤ number_of b)
result2 Div a b = unless_zero (number_of b) (checked (type_of a) (int_div (number_of a) (number_of b)))
result2 Rem a b = unless_zero (number_of b) (checked (type_of a) (int_rem (number_of a) (number_of b)))
result2 Eq a b = Ok (Flag (int_eq (number_of a) (number_of b)))
result2 Ne a b = Ok (Flag (not (int_eq (number_of a) (number_of b))))
result2 Lt a b = Ok (Flag (int_lt (number_of a) (number_of b)))
result2 Le a b = Ok (Flag (int_le (number_of a) (number_of b)))
result2 Gt a b = Ok (Flag (int_lt (number_of b) (number_of a)))
result2 Ge a b = Ok (Flag (int_le (number_of b) (number_of a)))

-- whether a type has arithmetic and order
abbrev pub is_numeric : VType → Bool
is_numeric I32 = true
is_numeric I64 = true
is_numeric Flag = false
is_numeric Node = false

-- whether two types are one
abbrev pub same_type : VType → VType → Bool
same_type I32 I32 = true
same_type I64 I64 = true
same_type Flag Flag = true
same_type Node Node = true
same_type t u = false

-- whether a type is that of truth values
abbrev pub is_flag : VType → Bool
is_flag t = same_type t Flag

-- whether both types are one that has arithmetic and order
abbrev pub both_numeric : VType → VType → Bool
both_numeric t u = if same_type t u then is_numeric t else false

-- whether an operation on one value fits a type: arithmetic and casts take numbers, Not takes a truth value
abbrev pub fits1 : Op1 → VType → Bool
fits1 Neg t = is_numeric t
fits1 Not t = is_flag t
fits1 ToI32 t = is_numeric t
fits1 ToI64 t = is_numeric t

-- whether an operation on two values fits their types: arithmetic and order take two numbers of one type, Eq and Ne two values of one type
abbrev pub fits2 : Op2 → VType → VType → Bool
fits2 Add t u = both_numeric t u
fits2 Sub t u = both_numeric t u
fits2 Mul t u = both_numeric t u
fits2 Div t u = both_numeric t u
fits2 Rem t u = both_numeric t u
fits2 Eq t u = same_type t u
fits2 Ne t u = same_type t u
fits2 Lt t u = both_numeric t u
fits2 Le t u = both_numeric t u
fits2 Gt t u = both_numeric t u
fits2 Ge t u = both_numeric t u

-- the type of what an operation on one value of a type gives
abbrev pub type1 : Op1 → VType → VType
type1 Neg t = t
type1 Not t = Flag
type1 ToI32 t = I32
type1 ToI64 t = I64

-- the type of what an operation on two values of a type gives
abbrev pub type2 : Op2 → VType → VType
type2 Add t = t
type2 Sub t = t
type2 Mul t = t
type2 Div t = t
type2 Rem t = t
type2 Eq t = Flag
type2 Ne t = Flag
type2 Lt t = Flag
type2 Le t = Flag
type2 Gt t = Flag
type2 Ge t = Flag

-- an operation fits a value
abbrev pub Fits1 : Op1 → Value → Type 0
Fits1 op a = IsTrue (fits1 op (type_of a))

-- an operation fits two values
abbrev pub Fits2 : Op2 → Value → Value → Type 0
Fits2 op a b = IsTrue (fits2 op (type_of a) (type_of b))
