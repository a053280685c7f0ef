-- Reductions are commutative monoids, and a total does not depend on the order of its bag.
use Rattle.std.proofs.Common.{◌≡◌, ℤ, List, refl, sym, ap, ◌∙◌, arith}
use Rattle.std.specs.Int.{int_min, int_max}
use Rattle.std.proofs.Math.IntN.{+ℤ_assoc, +ℤ_comm, *ℤ_comm}
use Rattle.std.proofs.lemmas.Int.{ints, clamps}
use Rattle.gm_value.specs.declared.values.VType.{VType}
use Rattle.gm_value.specs.declared.values.Value.{Value}
use Rattle.gm_value.specs.declared.reductions.Reduce.{Reduce}
use Rattle.gm_value.specs.declared.reductions.Reduce.TheVariants.{Sum, Product, Min, Max, And, Or}
use Rattle.gm_value.specs.Numbers.{number_of, type_of, checked}
use Rattle.gm_value.specs.Reductions.{combined, total, close}
use Rattle.gm_value.specs.Bag.{SameBag}
use Rattle.gm_value.proofs.BagLaws.{SameBag-folded}
use Rattle.gm_value.proofs.ProductLaws.{*ℤ_assoc}

min_assoc : (a b c : ℤ) → int_min (int_min a b) c ≡ int_min a (int_min b c)
min_assoc a b c = omega (arith, ints, clamps)

max_assoc : (a b c : ℤ) → int_max (int_max a b) c ≡ int_max a (int_max b c)
max_assoc a b c = omega (arith, ints, clamps)

min_comm : (a b : ℤ) → int_min a b ≡ int_min b a
min_comm a b = omega (arith, ints, clamps)

max_comm : (a b : ℤ) → int_max a b ≡ int_max b a
max_comm a b = omega (arith, ints, clamps)

pub combined_assoc : (r : Reduce) (a b c : ℤ) → combined r (combined r a b) c ≡ combined r a (combined r b c)
combined_assoc Sum a b c = +ℤ_assoc a b c
combined_assoc Product a b c = *ℤ_assoc a b c
combined_assoc Min a b c = min_assoc a b c
combined_assoc Max a b c = max_assoc a b c
combined_assoc And a b c = min_assoc a b c
combined_assoc Or a b c = max_assoc a b c

pub combined_comm : (r : Reduce) (a b : ℤ) → combined r a b ≡ combined r b a
combined_comm Sum a b = +ℤ_comm a b
combined_comm Product a b = *ℤ_comm a b
combined_comm Min a b = min_comm a b
combined_comm Max a b = max_comm a b
combined_comm And a b = min_comm a b
combined_comm Or a b = max_comm a b

-- two numbers change places before a third
pub combined_exchange : (r : Reduce) (a b c : ℤ) → combined r a (combined r b c) ≡ combined r b (combined r a c)
combined_exchange r a b c = sym (combined_assoc r a b c) ∙ ap (λ z. combined r z c) (combined_comm r a b) ∙ combined_assoc r b a c

-- a total does not depend on the order of its bag
pub total-permuted : (r : Reduce) (t : VType) {bag other : List Value} → SameBag bag other → total r t bag ≡ total r t other
total-permuted r t same = SameBag-folded (total r t) (λ v z. combined r (number_of v) z) (λ v bag. refl) (λ v w z. combined_exchange r (number_of v) (number_of w) z) same

-- nor does what it closes to
pub close-permuted : (r : Reduce) (held : Value) {bag other : List Value} → SameBag bag other → close r held bag ≡ close r held other
close-permuted r held same = ap (λ z. checked (type_of held) (combined r (number_of held) z)) (total-permuted r (type_of held) same)
