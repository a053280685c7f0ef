-- What becomes of a set of variables.
use Rattle.std.proofs.Common.{◌≡◌, ℕ, Bool, true, false, cond, List, [], ◌∷◌, refl, sym, ap, ◌∙◌, ◌⊎◌, inl, inr, arith}
use Rattle.std.proofs.Math.Path.{fun_ext}
use Rattle.std.specs.Prelude.{◌||◌, nat_eq, nat_lt}
use Rattle.std.specs.List.{AllZip, list_any}
use Rattle.std.specs.BTreeSet.{BTreeSet, contains, InsertsAll, Updates}
use Rattle.std.specs.Ordering.{nat_cmp, is_eq}
use Rattle.std.specs.declared.cmp.Ordering.TheVariants.{Less, Equal, Greater}
use Rattle.std.proofs.lemmas.Bool.{cases_eq, eq-eqb, ne_eqb}
use Rattle.gm_slices.specs.Needs.{either, none, with_member}

-- numbers that differ do not compare equal
other : (k q : ℕ) → (k ≡ q → ⊥) → is_eq (nat_cmp k q) ≡ false
other k q ne = one (nat_lt k q)
  where
    one : (b : Bool) → is_eq (cond b Less (cond (nat_eq k q) Equal Greater)) ≡ false
    one true = refl
    one false = ap (λ (b : Bool). is_eq (cond b Equal Greater)) (ne_eqb k q ne)

same : (k q : ℕ) → k ≡ q → is_eq (nat_cmp k q) ≡ true
same k q e = ap (λ (n : ℕ). is_eq (nat_cmp k n)) (sym e) ∙ itself
  where
    not-less : nat_lt k k ≡ false
    not-less = grind arith

    itself : is_eq (nat_cmp k k) ≡ true
    itself = ap (λ (b : Bool). is_eq (cond b Less (cond (nat_eq k k) Equal Greater))) not-less ∙ ap (λ (b : Bool). is_eq (cond b Equal Greater)) (eq-eqb k k refl)

compared : (k q : ℕ) → is_eq (nat_cmp k q) ≡ nat_eq q k
compared k q = one (cases_eq q k)
  where
    one : (q ≡ k) ⊎ (q ≡ k → ⊥) → is_eq (nat_cmp k q) ≡ nat_eq q k
    one (inl e) = same k q (sym e) ∙ sym (eq-eqb q k e)
    one (inr ne) = other k q (λ e. ne (sym e)) ∙ sym (ne_eqb q k ne)

chosen : (b c : Bool) → cond b true c ≡ b || c
chosen true c = refl
chosen false c = refl

-- one more variable
pub member-more : (s t : BTreeSet ℕ) (k : ℕ) → Updates nat_cmp s t k true → contains nat_cmp t ≡ with_member k (contains nat_cmp s)
member-more s t k u = fun_ext (λ q. u.0 q ∙ chosen (is_eq (nat_cmp k q)) (contains nat_cmp s q) ∙ ap (λ b. b || contains nat_cmp s q) (compared k q))

-- no variable
pub member-none : (s : BTreeSet ℕ) → s.keys ≡ [] → contains nat_cmp s ≡ none
member-none s e = fun_ext (λ q. ap (list_any (λ k. is_eq (nat_cmp q k))) e)

-- the variables of two sets
pub member-either : (s o t : BTreeSet ℕ) → InsertsAll nat_cmp s o.keys t → contains nat_cmp t ≡ either (contains nat_cmp s) (contains nat_cmp o)
member-either s o t u = fun_ext u.0

copied : (xs ys : List ℕ) → AllZip (λ x y. y ≡ x) xs ys → ys ≡ xs
copied [] [] z = refl
copied [] (y ∷ ys) z = absurd z
copied (x ∷ xs) [] z = absurd z
copied (x ∷ xs) (y ∷ ys) z = λ i. z.0 i ∷ copied xs ys z.1 i

-- the same variables
pub member-copied : (s t : BTreeSet ℕ) → AllZip (λ x y. y ≡ x) s.keys t.keys → contains nat_cmp t ≡ contains nat_cmp s
member-copied s t z = fun_ext (λ q. ap (list_any (λ k. is_eq (nat_cmp q k))) (copied s.keys t.keys z))
