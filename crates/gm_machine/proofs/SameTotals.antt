-- Exact totals that do the same, and what is made of them.
use Rattle.std.proofs.Common.{inl, inr, ◌≡◌, ◌<◌, ◌≤◌, ◌*◌, ◌^◌, ℕ, zero, suc, ℤ, pos, negsuc, ◌*ℤ◌, unsigned_abs, Option, Some, None, List, [], ◌∷◌, refl, sym, ap, subst, ◌∙◌, arith}
use Rattle.std.specs.Prelude.{◌⊎◌}
use Rattle.std.proofs.lemmas.Int.{ints, unsigned_abs-mul}
use Rattle.gm_value.specs.declared.values.VType.{VType}
use Rattle.gm_value.specs.declared.values.Value.{Value}
use Rattle.gm_value.specs.declared.reductions.Reduce.{Reduce}
use Rattle.gm_value.specs.declared.reductions.Reduce.TheVariants.{Sum, Product, Min, Max, And, Or}
use Rattle.gm_value.specs.Numbers.{number_of, checked}
use Rattle.gm_value.specs.Reductions.{combined, unit_of, total}
use Rattle.gm_value.proofs.MonoidLaws.{combined_assoc, combined_comm}
use Rattle.gm_value.proofs.NumberLaws.{checked-far}
use Rattle.gm_machine.specs.Combining.{more_exact, exact_of, AreFar, SameTotal}

-- exact totals: those of two bags together
abbrev pub joined : Reduce → Option ℤ → Option ℤ → Option ℤ
joined r None y = y
joined r (Some a) None = Some a
joined r (Some a) (Some b) = Some (combined r a b)

-- a total is the exact total with the unit
abbrev pub total_of : Reduce → VType → Option ℤ → ℤ
total_of r t None = unit_of r t
total_of r t (Some e) = combined r e (unit_of r t)

-- what is far stays so under each factor but 0
times-grows : (n a b : ℕ) → 1 ≤ a → n < b → n < a * b
times-grows n a b some far = grind arith

far-times : (c a : ℤ) → 1 ≤ unsigned_abs c → 2 ^ 63 < unsigned_abs a → 2 ^ 63 < unsigned_abs (c *ℤ a)
far-times c a some far = rw (unsigned_abs-mul c a) (times-grows (2 ^ 63) (unsigned_abs c) (unsigned_abs a) some far)

nothing-times : (a b : ℤ) → pos 0 *ℤ a ≡ pos 0 *ℤ b
nothing-times a b = omega (arith, ints)

scaled : (c a b : ℤ) → 2 ^ 63 < unsigned_abs a → 2 ^ 63 < unsigned_abs b → SameTotal Product (Some (c *ℤ a)) (Some (c *ℤ b))
scaled (pos zero) a b f g = inl (ap Some (nothing-times a b))
scaled (pos (suc n)) a b f g = inr (far-times (pos (suc n)) a (omega arith) f, far-times (pos (suc n)) b (omega arith) g)
scaled (negsuc n) a b f g = inr (far-times (negsuc n) a (omega arith) f, far-times (negsuc n) b (omega arith) g)

right : (r : Reduce) (x y z : Option ℤ) → AreFar r y z → SameTotal r (joined r x y) (joined r x z)
right Product None (Some a) (Some b) f = inr f
right Product (Some c) (Some a) (Some b) f = scaled c a b f.0 f.1
right r x y z no_way = absurd no_way

left : (r : Reduce) (x y z : Option ℤ) → AreFar r x y → SameTotal r (joined r x z) (joined r y z)
left Product (Some a) (Some b) None f = inr f
left Product (Some a) (Some b) (Some c) f =
    subst (λ n. SameTotal Product (Some (combined Product a c)) (Some n)) (combined_comm Product c b)
    (subst (λ n. SameTotal Product (Some n) (Some (combined Product c b))) (combined_comm Product c a) (scaled c a b f.0 f.1))
left r x y z no_way = absurd no_way

both : (r : Reduce) (x y z u : Option ℤ) → AreFar r x y → AreFar r z u → SameTotal r (joined r x z) (joined r y u)
both Product (Some a) (Some b) z u f g = others z u g where
  others : (z u : Option ℤ) → AreFar Product z u → SameTotal Product (joined Product (Some a) z) (joined Product (Some b) u)
  others (Some c) (Some d) h = inr (far-times a c (omega (arith, f.0)) h.0, far-times b d (omega (arith, f.1)) h.1)
  others z u no_way = absurd no_way
both r x y z u no_way g = absurd no_way

pub joined-alike : (r : Reduce) (x y z u : Option ℤ) → SameTotal r x y → SameTotal r z u → SameTotal r (joined r x z) (joined r y u)
joined-alike r x y z u (inl e) (inl f) = inl (ap (λ o. joined r o z) e ∙ ap (joined r y) f)
joined-alike r x y z u (inl e) (inr f) = subst (λ o. SameTotal r (joined r x z) (joined r o u)) e (right r x z u f)
joined-alike r x y z u (inr f) (inl e) = subst (λ o. SameTotal r (joined r x z) (joined r y o)) e (left r x y z f)
joined-alike r x y z u (inr f) (inr g) = both r x y z u f g

-- they close a held value alike
far-closes : (r : Reduce) (t : VType) (h : ℤ) (x y : Option ℤ) → AreFar r x y → checked t (combined r h (total_of r t x)) ≡ checked t (combined r h (total_of r t y))
far-closes Product t (pos zero) (Some a) (Some b) f = ap (checked t) (nothing-times (a *ℤ pos 1) (b *ℤ pos 1))
far-closes Product t (pos (suc n)) (Some a) (Some b) f =
    let one : 2 ^ 63 < unsigned_abs (pos (suc n) *ℤ (a *ℤ pos 1)) = far-times (pos (suc n)) (a *ℤ pos 1) (omega arith) (omega (arith, ints, f.0)) in
    let other : 2 ^ 63 < unsigned_abs (pos (suc n) *ℤ (b *ℤ pos 1)) = far-times (pos (suc n)) (b *ℤ pos 1) (omega arith) (omega (arith, ints, f.1)) in
    checked-far t (pos (suc n) *ℤ (a *ℤ pos 1)) one ∙ sym (checked-far t (pos (suc n) *ℤ (b *ℤ pos 1)) other)
far-closes Product t (negsuc n) (Some a) (Some b) f =
    let one : 2 ^ 63 < unsigned_abs (negsuc n *ℤ (a *ℤ pos 1)) = far-times (negsuc n) (a *ℤ pos 1) (omega arith) (omega (arith, ints, f.0)) in
    let other : 2 ^ 63 < unsigned_abs (negsuc n *ℤ (b *ℤ pos 1)) = far-times (negsuc n) (b *ℤ pos 1) (omega arith) (omega (arith, ints, f.1)) in
    checked-far t (negsuc n *ℤ (a *ℤ pos 1)) one ∙ sym (checked-far t (negsuc n *ℤ (b *ℤ pos 1)) other)
far-closes r t h x y no_way = absurd no_way

pub closes-alike : (r : Reduce) (t : VType) (h : ℤ) (x y : Option ℤ) → SameTotal r x y → checked t (combined r h (total_of r t x)) ≡ checked t (combined r h (total_of r t y))
closes-alike r t h x y (inl e) = ap (λ o. checked t (combined r h (total_of r t o))) e
closes-alike r t h x y (inr f) = far-closes r t h x y f

-- there are some of both, or none of both
far-none : (r : Reduce) (a : ℤ) → AreFar r None (Some a) → ⊥
far-none Product a f = f
far-none r a f = absurd f

none-far : (r : Reduce) (a : ℤ) → AreFar r (Some a) None → ⊥
none-far Product a f = f
none-far r a f = absurd f

pub never-none : (r : Reduce) (a : ℤ) → SameTotal r None (Some a) → ⊥
never-none r a (inl e) = cc
never-none r a (inr f) = far-none r a f

pub none-never : (r : Reduce) (a : ℤ) → SameTotal r (Some a) None → ⊥
none-never r a (inl e) = cc
none-never r a (inr f) = none-far r a f

-- totals that are others
pub totals-as : (q r : Reduce) (x y z u : Option ℤ) → q ≡ r → x ≡ z → y ≡ u → SameTotal r z u → SameTotal q x y
totals-as q r x y z u same first second alike =
    subst (λ s. SameTotal s x y) (sym same) (subst (λ o. SameTotal r o y) (sym first) (subst (λ o. SameTotal r z o) (sym second) alike))
