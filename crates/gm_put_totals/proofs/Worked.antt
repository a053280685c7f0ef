-- The definitions on rows worked by hand.
use Rattle.std.proofs.Common.{◌≡◌, pos, negsuc, true, false, Some, None, [], ◌∷◌, refl}
use Rattle.gm_value.specs.declared.values.VType.TheVariants.{I32 as Int, I64 as Long, Flag as Truth, Node}
use Rattle.gm_value.specs.declared.values.Value.TheVariants.{I32, I64, Flag, At}
use Rattle.gm_value.specs.declared.reductions.Reduce.TheVariants.{Sum, Product, Min, Max, And, Or}
use Rattle.gm_put_totals.specs.PutTotals.{single_put, reduced_puts}

-- a sum of numbers of 32 bits has 64
sum : reduced_puts 7 Sum 2 Int (I32 (pos 2147483647) ∷ I32 (pos 5) ∷ []) ≡ single_put 7 Sum 2 (I64 (pos 2147483652)) ∷ []
sum = refl

-- one that leaves them does not become one contribution
too_large : reduced_puts 7 Sum 2 Long (I64 (pos 9223372036854775807) ∷ I64 (pos 1) ∷ []) ≡ single_put 7 Sum 2 (I64 (pos 9223372036854775807)) ∷ single_put 7 Sum 2 (I64 (pos 1)) ∷ []
too_large = refl

product : reduced_puts 0 Product 1 Int (I32 (pos 6) ∷ I32 (negsuc 6) ∷ []) ≡ single_put 0 Product 1 (I32 (negsuc 41)) ∷ []
product = refl

least : reduced_puts 3 Min 0 Int (I32 (pos 4) ∷ I32 (negsuc 1) ∷ I32 (pos 9) ∷ []) ≡ single_put 3 Min 0 (I32 (negsuc 1)) ∷ []
least = refl

greatest : reduced_puts 3 Max 0 Node (At None ∷ At (Some 8) ∷ At (Some 5) ∷ []) ≡ single_put 3 Max 0 (At (Some 8)) ∷ []
greatest = refl

all : reduced_puts 3 And 0 Truth (Flag true ∷ Flag false ∷ []) ≡ single_put 3 And 0 (Flag false) ∷ []
all = refl

any : reduced_puts 3 Or 0 Truth (Flag false ∷ Flag true ∷ []) ≡ single_put 3 Or 0 (Flag true) ∷ []
any = refl

-- no value gives nothing, and a reduction that does not fit the values leaves them as they are
nothing : reduced_puts 3 Or 0 Truth [] ≡ []
nothing = refl

no_fit : reduced_puts 3 Or 0 Int (I32 (pos 0) ∷ []) ≡ single_put 3 Or 0 (I32 (pos 0)) ∷ []
no_fit = refl
