-- Laws of values as whole numbers.
use Rattle.std.proofs.Common.{◌≡◌, ◌≤◌, ◌<◌, ◌+◌, ◌*◌, ◌^◌, ℕ, zero, suc, Bool, true, false, not, ℤ, pos, negsuc, ◌+ℤ◌, ◌-ℤ◌, ◌*ℤ◌, unsigned_abs, of_z, refl, ap, sym, subst, ◌∙◌, ⊎_elim, Some, None, Result, Ok, Err, IfOk, arith}
use Rattle.std.specs.Prelude.{if◌then◌else◌, IsTrue, int_lt, int_le, int_div, int_rem}
use Rattle.std.specs.Ordering.{int_eq}
use mir.Syntax.{w128}
use Rattle.std.proofs.lemmas.Bool.{cases_Bool}
use Rattle.std.proofs.lemmas.Bool.Decides.{Decides-int_eq}
use Rattle.std.proofs.lemmas.Int.{ints, unsigned_abs-mul}
use Rattle.gm_value.specs.declared.values.VType.{VType}
use Rattle.gm_value.specs.declared.values.VType.TheVariants.{I32, I64, Flag, Node}
use Rattle.gm_value.specs.declared.values.Value.{Value}
use Rattle.gm_value.specs.declared.values.Value.TheVariants as values
use Rattle.gm_value.specs.declared.faults.FaultKind.{FaultKind}
use Rattle.gm_value.specs.declared.faults.FaultKind.TheVariants.{DivideByZero, Overflow}
use Rattle.gm_value.specs.Numbers.{type_of, number_of, value_at, fits, checked, IsOf}
use Rattle.gm_value.specs.declared.operations.Op2.{Op2}
use Rattle.gm_value.specs.declared.operations.Op2.TheVariants.{Add, Sub, Mul, Div, Rem, Eq, Ne, Lt, Le, Gt, Ge}
use Rattle.gm_value.specs.Operations.{unless_zero, result2, type2}

-- a divisor whose bits are not 0 is not 0
pub unless_zero-other : (y : ℤ) (answer : Result Value FaultKind) → (of_z w128 y ≡ 0 → ⊥) → unless_zero y answer ≡ answer
unless_zero-other y answer other =
    ⊎_elim
    (λ (zero_is : int_eq y (pos 0) ≡ true). absurd (other (ap (of_z w128) ((Decides-int_eq y (pos 0)).0 zero_is))))
    (λ (not_zero : int_eq y (pos 0) ≡ false). ap (λ b. if b then Err DivideByZero else answer) not_zero)
    (cases_Bool (int_eq y (pos 0)))

-- a number of more than 64 bits is out of each type's range
pub checked-far : (t : VType) (z : ℤ) → 2 ^ 63 < unsigned_abs z → checked t z ≡ Err Overflow
checked-far I32 (pos n) far = grind arith
checked-far I32 (negsuc n) far = grind arith
checked-far I64 (pos n) far = grind arith
checked-far I64 (negsuc n) far = grind arith
checked-far Flag (pos n) far = grind arith
checked-far Flag (negsuc n) far = grind arith
checked-far Node (pos n) far = grind arith
checked-far Node (negsuc n) far = grind arith

abs_above : (x : ℤ) → (of_z w128 x ≡ 0 → ⊥) → 1 ≤ unsigned_abs x
abs_above (pos zero) other = absurd (other refl)
abs_above (pos (suc n)) other = omega arith
abs_above (negsuc n) other = omega arith

times_grows : (n a b : ℕ) → 1 ≤ a → n < b → n < a * b
times_grows n a b some far = grind arith

-- a factor other than 0 takes no magnitude away
pub above-times : (n : ℕ) (x e : ℤ) → (of_z w128 x ≡ 0 → ⊥) → n < unsigned_abs e → n < unsigned_abs (x *ℤ e)
above-times n x e other far = rw (unsigned_abs-mul x e) (times_grows n (unsigned_abs x) (unsigned_abs e) (abs_above x other) far)

-- a number of a type's range has at most 64 bits
pub fits-near : (t : VType) (z : ℤ) → IsTrue (fits t z) → unsigned_abs z ≤ 2 ^ 63
fits-near I32 (pos n) inside = grind arith
fits-near I32 (negsuc n) inside = grind arith
fits-near I64 (pos n) inside = grind arith
fits-near I64 (negsuc n) inside = grind arith
fits-near Flag (pos n) inside = grind arith
fits-near Flag (negsuc n) inside = grind arith
fits-near Node (pos n) inside = grind arith
fits-near Node (negsuc n) inside = grind arith

-- the value at a number has the type
pub type_of-value_at : (t : VType) (z : ℤ) → type_of (value_at t z) ≡ t
type_of-value_at I32 z = refl
type_of-value_at I64 z = refl
type_of-value_at Flag z = refl
type_of-value_at Node (pos n) = refl
type_of-value_at Node (negsuc n) = refl

-- the value at a number of the range has the number
pub number_of-value_at : (t : VType) (z : ℤ) → IsTrue (fits t z) → number_of (value_at t z) ≡ z
number_of-value_at I32 z inside = refl
number_of-value_at I64 z inside = refl
number_of-value_at Flag (pos zero) inside = refl
number_of-value_at Flag (pos (suc zero)) inside = refl
number_of-value_at Flag (pos (suc (suc n))) inside = absurd (grind arith)
number_of-value_at Flag (negsuc n) inside = absurd (grind arith)
number_of-value_at Node (pos n) inside = refl
number_of-value_at Node (negsuc zero) inside = refl
number_of-value_at Node (negsuc (suc n)) inside = absurd (grind arith)

-- the value at a value's number is the value
pub value_at-number_of : (v : Value) → value_at (type_of v) (number_of v) ≡ v
value_at-number_of (values.I32 z) = refl
value_at-number_of (values.I64 z) = refl
value_at-number_of (values.Flag false) = refl
value_at-number_of (values.Flag true) = refl
value_at-number_of (values.At None) = refl
value_at-number_of (values.At (Some k)) = refl

-- a checked number that is in range is a value of the type with that number
pub checked-typed : (t : VType) (z : ℤ) → IfOk (checked t z) (IsOf t)
checked-typed t z =
    ⊎_elim
    (λ (inside : fits t z ≡ true).
    let at : IsOf t (value_at t z) = (type_of-value_at t z, subst (λ n. IsTrue (fits t n)) (sym (number_of-value_at t z inside)) inside) in
    subst (λ b. IfOk (if b then Ok (value_at t z) else Err Overflow) (IsOf t)) (sym inside) at)
    (λ (outside : fits t z ≡ false). subst (λ b. IfOk (if b then Ok (value_at t z) else Err Overflow) (IsOf t)) (sym outside) tt)
    (cases_Bool (fits t z))

-- a value of its type's range is checked as itself
pub checked-number_of : (v : Value) → IsTrue (fits (type_of v) (number_of v)) → checked (type_of v) (number_of v) ≡ Ok v
checked-number_of v inside = ap (λ b. if b then Ok (value_at (type_of v) (number_of v)) else Err Overflow) inside ∙ ap Ok (value_at-number_of v)

-- a truth value is one
pub flag-typed : (b : Bool) → IsOf Flag (values.Flag b)
flag-typed true = (refl, refl)
flag-typed false = (refl, refl)

-- an answer of a type is one where the divisor is not 0
unless_zero-typed : (y : ℤ) (answer : Result Value FaultKind) (t : VType) → IfOk answer (IsOf t) → IfOk (unless_zero y answer) (IsOf t)
unless_zero-typed y answer t is =
    ⊎_elim
    (λ (zero_is : int_eq y (pos 0) ≡ true). subst (λ b. IfOk (if b then Err DivideByZero else answer) (IsOf t)) (sym zero_is) tt)
    (λ (not_zero : int_eq y (pos 0) ≡ false). subst (λ b. IfOk (if b then Err DivideByZero else answer) (IsOf t)) (sym not_zero) is)
    (cases_Bool (int_eq y (pos 0)))

pub result2-typed : (op : Op2) (a b : Value) → IfOk (result2 op a b) (IsOf (type2 op (type_of a)))
result2-typed Add a b = checked-typed (type_of a) (number_of a +ℤ number_of b)
result2-typed Sub a b = checked-typed (type_of a) (number_of a -ℤ number_of b)
result2-typed Mul a b = checked-typed (type_of a) (number_of a *ℤ number_of b)
result2-typed Div a b = unless_zero-typed (number_of b) (checked (type_of a) (int_div (number_of a) (number_of b))) (type_of a) (checked-typed (type_of a) (int_div (number_of a) (number_of b)))
result2-typed Rem a b = unless_zero-typed (number_of b) (checked (type_of a) (int_rem (number_of a) (number_of b))) (type_of a) (checked-typed (type_of a) (int_rem (number_of a) (number_of b)))
result2-typed Eq a b = flag-typed (int_eq (number_of a) (number_of b))
result2-typed Ne a b = flag-typed (not (int_eq (number_of a) (number_of b)))
result2-typed Lt a b = flag-typed (int_lt (number_of a) (number_of b))
result2-typed Le a b = flag-typed (int_le (number_of a) (number_of b))
result2-typed Gt a b = flag-typed (int_lt (number_of b) (number_of a))
result2-typed Ge a b = flag-typed (int_le (number_of b) (number_of a))

-- a sum's magnitude is at most that of its parts together
pub abs-add : (x y : ℤ) (m n : ℕ) → unsigned_abs x ≤ m → unsigned_abs y ≤ n → unsigned_abs (x +ℤ y) ≤ m + n
abs-add (pos a) (pos b) m n x_near y_near = omega arith
abs-add (pos a) (negsuc b) m n x_near y_near = grind (arith, ints)
abs-add (negsuc a) (pos b) m n x_near y_near = grind (arith, ints)
abs-add (negsuc a) (negsuc b) m n x_near y_near = omega arith
