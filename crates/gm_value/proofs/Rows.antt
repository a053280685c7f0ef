-- Rows that the definitions compute.
use Rattle.std.specs.Prelude.{◌≡◌, ◌/◌, ◌%◌, ◌+◌, ℕ, sum_by, nat_lt, if◌then◌else◌, true, false, pos, negsuc, Option, List, [], ◌∷◌, Ok, Err, refl, Some, None}
use Rattle.gm_value.specs.declared.values.VType.TheVariants as types
use Rattle.gm_value.specs.declared.values.Value.TheVariants.{I32, I64, Flag, At}
use Rattle.gm_value.specs.declared.faults.FaultKind.TheVariants.{Overflow, DivideByZero}
use Rattle.gm_value.specs.declared.operations.Op1.TheVariants.{Neg, Not, ToI32, ToI64}
use Rattle.gm_value.specs.declared.operations.Op2.TheVariants.{Add, Sub, Mul, Div, Rem, Eq, Ne, Lt, Ge}
use Rattle.gm_value.specs.declared.reductions.Reduce.TheVariants.{Sum, Product, Min, Max, And, Or}
use Rattle.gm_value.specs.Operations.{result1, result2}
use Rattle.gm_value.specs.Reductions.{close, reduces}
use Rattle.gm_value.specs.Tuples.{replaces, best, close_slots}
use Rattle.gm_value.specs.Taking.{taken}

-- ---- operations

sum_greatest : result2 Add (I32 (pos 2147483646)) (I32 (pos 1)) ≡ Ok (I32 (pos 2147483647))
sum_greatest = refl

sum_past : result2 Add (I32 (pos 2147483647)) (I32 (pos 1)) ≡ Err Overflow
sum_past = refl

sum_past_long : result2 Add (I64 (pos 9223372036854775807)) (I64 (pos 1)) ≡ Err Overflow
sum_past_long = refl

difference_past : result2 Sub (I32 (negsuc 2147483647)) (I32 (pos 1)) ≡ Err Overflow
difference_past = refl

product_past : result2 Mul (I64 (pos 4294967296)) (I64 (pos 2147483648)) ≡ Err Overflow
product_past = refl

product_least : result2 Mul (I64 (pos 4294967296)) (I64 (negsuc 2147483647)) ≡ Ok (I64 (negsuc 9223372036854775807))
product_least = refl

-- 7 / 2, -7 / 2, 7 / -2 and -7 / -2, with the remainders

quotient_plain : result2 Div (I32 (pos 7)) (I32 (pos 2)) ≡ Ok (I32 (pos 3))
quotient_plain = refl

quotient_left : result2 Div (I32 (negsuc 6)) (I32 (pos 2)) ≡ Ok (I32 (negsuc 2))
quotient_left = refl

quotient_right : result2 Div (I32 (pos 7)) (I32 (negsuc 1)) ≡ Ok (I32 (negsuc 2))
quotient_right = refl

quotient_both : result2 Div (I32 (negsuc 6)) (I32 (negsuc 1)) ≡ Ok (I32 (pos 3))
quotient_both = refl

remainder_plain : result2 Rem (I32 (pos 7)) (I32 (pos 2)) ≡ Ok (I32 (pos 1))
remainder_plain = refl

remainder_left : result2 Rem (I32 (negsuc 6)) (I32 (pos 2)) ≡ Ok (I32 (negsuc 0))
remainder_left = refl

remainder_right : result2 Rem (I32 (pos 7)) (I32 (negsuc 1)) ≡ Ok (I32 (pos 1))
remainder_right = refl

remainder_both : result2 Rem (I32 (negsuc 6)) (I32 (negsuc 1)) ≡ Ok (I32 (negsuc 0))
remainder_both = refl

least_divided : result2 Div (I32 (negsuc 2147483647)) (I32 (negsuc 0)) ≡ Err Overflow
least_divided = refl

least_rest : result2 Rem (I32 (negsuc 2147483647)) (I32 (negsuc 0)) ≡ Ok (I32 (pos 0))
least_rest = refl

divided_by_zero : result2 Div (I64 (pos 0)) (I64 (pos 0)) ≡ Err DivideByZero
divided_by_zero = refl

rest_by_zero : result2 Rem (I64 (pos 5)) (I64 (pos 0)) ≡ Err DivideByZero
rest_by_zero = refl

least_negated : result1 Neg (I64 (negsuc 9223372036854775807)) ≡ Err Overflow
least_negated = refl

greatest_negated : result1 Neg (I32 (pos 2147483647)) ≡ Ok (I32 (negsuc 2147483646))
greatest_negated = refl

cast_least : result1 ToI32 (I64 (negsuc 2147483647)) ≡ Ok (I32 (negsuc 2147483647))
cast_least = refl

cast_past : result1 ToI32 (I64 (pos 2147483648)) ≡ Err Overflow
cast_past = refl

cast_up : result1 ToI64 (I32 (negsuc 0)) ≡ Ok (I64 (negsuc 0))
cast_up = refl

negated : result1 Not (Flag true) ≡ Ok (Flag false)
negated = refl

nil_equals_nil : result2 Eq (At None) (At None) ≡ Ok (Flag true)
nil_equals_nil = refl

nil_is_no_node : result2 Ne (At None) (At (Some 0)) ≡ Ok (Flag true)
nil_is_no_node = refl

less : result2 Lt (I64 (negsuc 0)) (I64 (pos 0)) ≡ Ok (Flag true)
less = refl

at_least : result2 Ge (I32 (pos 3)) (I32 (pos 3)) ≡ Ok (Flag true)
at_least = refl

-- ---- reductions

sum_fits : close Sum (I32 (pos 0)) (I32 (pos 2147483647) ∷ I32 (pos 2147483647) ∷ I32 (negsuc 2147483646) ∷ []) ≡ Ok (I32 (pos 2147483647))
sum_fits = refl

sum_overflows : close Sum (I32 (pos 0)) (I32 (pos 2147483647) ∷ I32 (pos 1) ∷ []) ≡ Err Overflow
sum_overflows = refl

product_overflows : close Product (I32 (pos 1)) (I32 (pos 2147483647) ∷ I32 (pos 2147483647) ∷ []) ≡ Err Overflow
product_overflows = refl

product_zero : close Product (I32 (pos 1)) (I32 (pos 2147483647) ∷ I32 (pos 2147483647) ∷ I32 (pos 0) ∷ []) ≡ Ok (I32 (pos 0))
product_zero = refl

least_of_all : close Min (I64 (pos 4)) (I64 (pos 7) ∷ I64 (negsuc 1) ∷ []) ≡ Ok (I64 (negsuc 1))
least_of_all = refl

latest_node : close Max (At None) (At (Some 3) ∷ At None ∷ At (Some 1) ∷ []) ≡ Ok (At (Some 3))
latest_node = refl

all_hold : close And (Flag true) (Flag true ∷ Flag false ∷ []) ≡ Ok (Flag false)
all_hold = refl

any_holds : close Or (Flag false) (Flag false ∷ Flag true ∷ []) ≡ Ok (Flag true)
any_holds = refl

nodes_have_no_least : reduces Min types.Node ≡ false
nodes_have_no_least = refl

nodes_have_a_greatest : reduces Max types.Node ≡ true
nodes_have_a_greatest = refl

-- ---- tuples: a number and a node, NIL being -1

least_tuple : best Min (pos 7 ∷ negsuc 0 ∷ []) ((pos 4 ∷ pos 3 ∷ []) ∷ (pos 4 ∷ pos 1 ∷ []) ∷ (pos 5 ∷ pos 0 ∷ []) ∷ []) ≡ pos 4 ∷ pos 1 ∷ []
least_tuple = refl

-- the greatest first entry, and among those the least rest
greatest_with_least_rest : best Max (pos 2 ∷ pos 9 ∷ []) ((pos 4 ∷ pos 3 ∷ []) ∷ (pos 4 ∷ pos 1 ∷ []) ∷ (pos 3 ∷ pos 0 ∷ []) ∷ []) ≡ pos 4 ∷ pos 1 ∷ []
greatest_with_least_rest = refl

nil_is_below_all_nodes : replaces Max (pos 4 ∷ pos 0 ∷ []) (pos 4 ∷ negsuc 0 ∷ []) ≡ true
nil_is_below_all_nodes = refl

an_equal_tuple_stays_out : replaces Min (pos 4 ∷ pos 0 ∷ []) (pos 4 ∷ pos 0 ∷ []) ≡ false
an_equal_tuple_stays_out = refl

-- ---- slots: a length of 32 bits and the node that it comes from
least_with_its_node : close_slots Min (I32 (pos 9) ∷ (At None ∷ [])) ((I32 (pos 4) ∷ (At (Some 3) ∷ [])) ∷ (I32 (pos 4) ∷ (At (Some 1) ∷ [])) ∷ []) ≡ Some (I32 (pos 4) ∷ (At (Some 1) ∷ []))
least_with_its_node = refl

what_is_held_stays : close_slots Min (I32 (pos 4) ∷ (At (Some 0) ∷ [])) ((I32 (pos 4) ∷ (At (Some 3) ∷ [])) ∷ []) ≡ Some (I32 (pos 4) ∷ (At (Some 0) ∷ []))
what_is_held_stays = refl

one_slot_sums : close_slots Sum (I32 (pos 4) ∷ []) ((I32 (pos 4) ∷ []) ∷ (I32 (pos 2) ∷ []) ∷ []) ≡ Some (I32 (pos 10) ∷ [])
one_slot_sums = refl

one_slot_overflows : close_slots Sum (I32 (pos 2147483647) ∷ []) ((I32 (pos 1) ∷ []) ∷ []) ≡ None
one_slot_overflows = refl

-- ---- taking: a contribution's rank is its tens and its weight its ones, and the held weight may not pass 12

abbrev ones_below : ℕ → List ℕ → Option ℕ
ones_below held bag = if nat_lt 12 (held + sum_by (λ c. c % 10) bag) then None else Some (held + sum_by (λ c. c % 10) bag)

taken_all : taken (λ c. c / 10) ones_below 3 0 (24 ∷ 1 ∷ 5 ∷ 2 ∷ []) ≡ Ok 12
taken_all = refl

-- ranks 0 and 2 pass the limit only at rank 2
taken_past : taken (λ c. c / 10) ones_below 3 0 (29 ∷ 1 ∷ 5 ∷ []) ≡ Err 2
taken_past = refl

-- the bound leaves rank 2 out
taken_below : taken (λ c. c / 10) ones_below 2 0 (29 ∷ 1 ∷ 5 ∷ []) ≡ Ok 6
taken_below = refl
