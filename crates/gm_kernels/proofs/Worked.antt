-- The definitions on rows worked by hand.
use Rattle.std.proofs.Common.{◌≡◌, ℕ, pos, negsuc, true, false, List, [], ◌∷◌, Some, None, refl}
use Rattle.gm_value.specs.declared.values.Value.TheVariants.{I32, I64, Flag, At}
use Rattle.gm_value.specs.declared.operations.Op1.TheVariants.{ToI32}
use Rattle.gm_value.specs.declared.operations.Op2.TheVariants.{Add, Div, Lt}
use Rattle.gm_value.specs.declared.reductions.Reduce.TheVariants.{Sum, Min, Max}
use Rattle.gm_kernels.specs.Pointwise.{applied1, applied2, chosen, places_from, count_of, held, left_out, merged, written_at, repeated}
use Rattle.gm_kernels.specs.Folding.{folded_at, folded_all}

-- a number of 64 bits that fits 32, and one that does not
narrowed : applied1 ToI32 (I64 (pos 7) ∷ I64 (negsuc 0) ∷ []) ≡ Some (I32 (pos 7) ∷ I32 (negsuc 0) ∷ [])
narrowed = refl

too_wide : applied1 ToI32 (I64 (pos 7) ∷ I64 (pos 2147483648) ∷ []) ≡ None
too_wide = refl

-- sums, one of them out of range, and a divisor that is 0
sums : applied2 Add (I32 (pos 1) ∷ I32 (pos 5) ∷ []) (I32 (pos 2) ∷ I32 (negsuc 5) ∷ []) ≡ Some (I32 (pos 3) ∷ I32 (negsuc 0) ∷ [])
sums = refl

over : applied2 Add (I32 (pos 1) ∷ I32 (pos 2147483647) ∷ []) (I32 (pos 2) ∷ I32 (pos 1) ∷ []) ≡ None
over = refl

by_zero : applied2 Div (I32 (pos 1) ∷ []) (I32 (pos 0) ∷ []) ≡ None
by_zero = refl

-- comparisons
less : applied2 Lt (I32 (pos 1) ∷ I32 (pos 2) ∷ []) (I32 (pos 2) ∷ I32 (pos 2) ∷ []) ≡ Some (Flag true ∷ Flag false ∷ [])
less = refl

choice : chosen {A = ℕ} (true ∷ false ∷ []) (1 ∷ 2 ∷ []) (3 ∷ 4 ∷ []) ≡ 1 ∷ 4 ∷ []
choice = refl

places : places_from 0 (true ∷ false ∷ true ∷ []) ≡ 0 ∷ 2 ∷ []
places = refl

-- three parted by flags, and put together again
holding : held {A = ℕ} (true ∷ false ∷ true ∷ []) (4 ∷ 5 ∷ 6 ∷ []) ≡ 4 ∷ 6 ∷ []
holding = refl

others : left_out {A = ℕ} (true ∷ false ∷ true ∷ []) (4 ∷ 5 ∷ 6 ∷ []) ≡ 5 ∷ []
others = refl

counted : count_of (true ∷ false ∷ true ∷ []) ≡ 2
counted = refl

together : merged {A = ℕ} (true ∷ false ∷ true ∷ []) (4 ∷ 6 ∷ []) (5 ∷ []) ≡ 4 ∷ 5 ∷ 6 ∷ []
together = refl

-- the last value written at a place stays
written : written_at {A = ℕ} (7 ∷ 8 ∷ 9 ∷ []) (2 ∷ 0 ∷ 2 ∷ []) (1 ∷ 2 ∷ 3 ∷ []) ≡ 2 ∷ 8 ∷ 3 ∷ []
written = refl

twice : repeated {A = ℕ} (2 ∷ 0 ∷ 1 ∷ []) (7 ∷ 8 ∷ 9 ∷ []) ≡ 7 ∷ 7 ∷ 9 ∷ []
twice = refl

-- two values at one place
least : folded_at Min (I32 (pos 5) ∷ I32 (pos 5) ∷ []) (1 ∷ 1 ∷ []) (I32 (pos 3) ∷ I32 (pos 4) ∷ []) ≡ Some (I32 (pos 5) ∷ I32 (pos 3) ∷ [])
least = refl

node : folded_at Max (At None ∷ []) (0 ∷ 0 ∷ []) (At (Some 4) ∷ At None ∷ []) ≡ Some (At (Some 4) ∷ [])
node = refl

-- a sum that is out of range on the way, and one in numbers of 64 bits
on_the_way : folded_all Sum (I32 (pos 2147483647)) (I32 (pos 1) ∷ I32 (negsuc 0) ∷ []) ≡ None
on_the_way = refl

wide : folded_all Sum (I64 (pos 2147483647)) (I32 (pos 1) ∷ []) ≡ Some (I64 (pos 2147483648))
wide = refl
