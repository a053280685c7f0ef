-- The least of violations, noted one after another or together.
use Rattle.std.proofs.Common.{◌≡◌, ℕ, Bool, true, false, List, [], ◌∷◌, ◌++◌, Option, refl, ap, sym, ◌∙◌, nat_eq, nat_lt, arith}
use Rattle.std.specs.Prelude.{◌&&◌, ◌||◌, if◌then◌else◌, Some, None}
use Rattle.std.proofs.lemmas.Bool.Decides.{nat_tests}
use Rattle.gm_base.specs.declared.rules.Refusal.{Refusal}
use Rattle.gm_base.specs.Rules.{rank_of, refusal_lt, lesser, least_from, least}

-- the least of some violations and of more
pub least_from-append : (best : Option Refusal) (rs qs : List Refusal) → least_from best (rs ++ qs) ≡ least_from (least_from best rs) qs
least_from-append best [] qs = refl
least_from-append best (r ∷ rs) qs = least_from-append (lesser best r) rs qs

-- a number before another, or the same with a test beside it
abbrev first_or : ℕ → ℕ → Bool → Bool
first_or a x p = nat_lt a x || (nat_eq a x && p)

first_or-then : (a x u : ℕ) (p q r : Bool) → (p ≡ true → q ≡ true → r ≡ true) → first_or a x p ≡ true → first_or x u q ≡ true → first_or a u r ≡ true
first_or-then a x u true true true f h k = grind (arith, nat_tests)
first_or-then a x u true true false f h k = let bad = f refl refl in cc
first_or-then a x u true false r f h k = grind (arith, nat_tests)
first_or-then a x u false q r f h k = grind (arith, nat_tests)

first_or-not : (a x u : ℕ) (p q r : Bool) → (p ≡ false → q ≡ false → r ≡ false) → first_or a x p ≡ false → first_or x u q ≡ false → first_or a u r ≡ false
first_or-not a x u false false false f h k = grind (arith, nat_tests)
first_or-not a x u false false true f h k = let bad = f refl refl in cc
first_or-not a x u false true r f h k = grind (arith, nat_tests)
first_or-not a x u true q r f h k = grind (arith, nat_tests)

lt-nat : (a x u : ℕ) → nat_lt a x ≡ true → nat_lt x u ≡ true → nat_lt a u ≡ true
lt-nat a x u h k = grind (arith, nat_tests)

not_lt-nat : (a x u : ℕ) → nat_lt a x ≡ false → nat_lt x u ≡ false → nat_lt a u ≡ false
not_lt-nat a x u h k = grind (arith, nat_tests)

-- the order of refusals, on lines, columns and ranks
abbrev before : ℕ → ℕ → ℕ → ℕ → ℕ → ℕ → Bool
before a b c x y z = (nat_lt a x || (nat_eq a x && nat_lt b y)) || ((nat_eq a x && nat_eq b y) && nat_lt c z)

nested : (p q r s t : Bool) → ((p || (q && r)) || ((q && s) && t)) ≡ (p || (q && (r || (s && t))))
nested true q r s t = refl
nested false true r s t = refl
nested false false r s t = refl

before-nested : (a b c x y z : ℕ) → before a b c x y z ≡ first_or a x (first_or b y (nat_lt c z))
before-nested a b c x y z = nested (nat_lt a x) (nat_eq a x) (nat_lt b y) (nat_eq b y) (nat_lt c z)

before-then : (a b c x y z u v w : ℕ) → before a b c x y z ≡ true → before x y z u v w ≡ true → before a b c u v w ≡ true
before-then a b c x y z u v w h k =
    before-nested a b c u v w
    ∙ first_or-then a x u _ _ _ (first_or-then b y v _ _ _ (lt-nat c z w)) (sym (before-nested a b c x y z) ∙ h) (sym (before-nested x y z u v w) ∙ k)

not_before-then : (a b c x y z u v w : ℕ) → before a b c x y z ≡ false → before x y z u v w ≡ false → before a b c u v w ≡ false
not_before-then a b c x y z u v w h k =
    before-nested a b c u v w
    ∙ first_or-not a x u _ _ _ (first_or-not b y v _ _ _ (not_lt-nat c z w)) (sym (before-nested a b c x y z) ∙ h) (sym (before-nested x y z u v w) ∙ k)

-- a refusal before one that is before a third
lt-then : (p q r : Refusal) → refusal_lt p q ≡ true → refusal_lt q r ≡ true → refusal_lt p r ≡ true
lt-then p q r = before-then p.place.line p.place.col (rank_of p.rule) q.place.line q.place.col (rank_of q.rule) r.place.line r.place.col (rank_of r.rule)

-- a refusal that is not before one that is not before a third
not_lt-then : (p q r : Refusal) → refusal_lt p q ≡ false → refusal_lt q r ≡ false → refusal_lt p r ≡ false
not_lt-then p q r = not_before-then p.place.line p.place.col (rank_of p.rule) q.place.line q.place.col (rank_of q.rule) r.place.line r.place.col (rank_of r.rule)

-- the lesser of two violations that may be absent
abbrev pub joined : Option Refusal → Option Refusal → Option Refusal
joined best None = best
joined best (Some r) = lesser best r

lesser-lesser : (a x y : Refusal) → lesser (lesser (Some a) x) y ≡ joined (Some a) (lesser (Some x) y)
lesser-lesser a x y = on (refusal_lt x a) (refusal_lt y x) refl refl
  where
    on : (p q : Bool) → refusal_lt x a ≡ p → refusal_lt y x ≡ q → lesser (if p then Some x else Some a) y ≡ joined (Some a) (if q then Some y else Some x)
    on true true h k = rw (k, lt-then y x a k h) refl
    on true false h k = rw (k, h) refl
    on false true h k = refl
    on false false h k = rw (not_lt-then y x a k h, h) refl

joined-joined : (a x : Refusal) (o : Option Refusal) → joined (lesser (Some a) x) o ≡ joined (Some a) (joined (Some x) o)
joined-joined a x None = refl
joined-joined a x (Some y) = lesser-lesser a x y

none-joined : (o : Option Refusal) → o ≡ joined None o
none-joined None = refl
none-joined (Some r) = refl

-- the least of what is least so far and of some violations is the lesser of it and of their least
pub least_from-joined : (best : Option Refusal) (rs : List Refusal) → least_from best rs ≡ joined best (least rs)
least_from-joined None rs = none-joined (least rs)
least_from-joined (Some a) [] = refl
least_from-joined (Some a) (x ∷ xs) =
    least_from-joined (lesser (Some a) x) xs ∙ joined-joined a x (least xs) ∙ ap (joined (Some a)) (sym (least_from-joined (Some x) xs))

-- the least of some refusals and more is one
some-stays : (a : Refusal) (rs : List Refusal) → (q : Refusal) × (least_from (Some a) rs ≡ Some q)
some-stays a [] = (a, refl)
some-stays a (r ∷ rs) = on (refusal_lt r a) (some-stays r rs) (some-stays a rs)
  where
    on : (b : Bool) → ((q : Refusal) × (least_from (Some r) rs ≡ Some q)) → ((q : Refusal) × (least_from (Some a) rs ≡ Some q)) → (q : Refusal) × (least_from (if b then Some r else Some a) rs ≡ Some q)
    on true x y = x
    on false x y = y

-- where there is no least, nothing is broken
pub nothing-least : (rs : List Refusal) → least rs ≡ None → rs ≡ []
nothing-least [] h = refl
nothing-least (r ∷ rs) h =
    let (q, k) = some-stays r rs in
    let bad = sym k ∙ h in
    cc
