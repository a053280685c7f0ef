-- The earliest reductions: which reductions of other operations stand at a place or before it.
use Rattle.std.proofs.Common.{◌≡◌, ℕ, nat_eq, Bool, true, false, List, [], ◌∷◌, Option, Some, None, ap, refl, sym, ◌∙◌, eqb-true, eq-eqb}
use Rattle.std.specs.Prelude.{◌&&◌, ◌||◌, not, if◌then◌else◌}
use Rattle.gm_base.specs.declared.places.Place.{Place}
use Rattle.gm_base.specs.Places.{place_lt}
use Rattle.gm_value.specs.declared.reductions.Reduce.{Reduce}
use Rattle.gm_value.specs.declared.reductions.Reduce.TheVariants.{Sum, Product, Min, Max, And, Or}
use Rattle.gm_ast.specs.declared.accesses.Operation.{Operation}
use Rattle.gm_ast.specs.Races.{reduce_eq, variables_eq, operation_eq}
use Rattle.gm_race.specs.declared.found.Reduction.{Reduction}
use Rattle.gm_race.specs.declared.firsts.Firsts.{Firsts}
use Rattle.gm_race.specs.Views.{operation_of}
use Rattle.gm_race.specs.Uses.{earlier, earliest, reaches, with_reduction, mixes_with}
use Rattle.gm_race.proofs.Places.{lt-le, not-lt-down, not-lt-not-lt, lt-earlier, reaches-earlier, reaches-earliest}
use Rattle.gm_race.proofs.AnyOf.{or-false, and-false, absorbed, not-true}

reduce-same : (a b : Reduce) → reduce_eq a b ≡ true → a ≡ b
reduce-same Sum Sum h = refl
reduce-same Product Product h = refl
reduce-same Min Min h = refl
reduce-same Max Max h = refl
reduce-same And And h = refl
reduce-same Or Or h = refl
reduce-same a b h = absurd cc

reduce-itself : (a : Reduce) → reduce_eq a a ≡ true
reduce-itself Sum = refl
reduce-itself Product = refl
reduce-itself Min = refl
reduce-itself Max = refl
reduce-itself And = refl
reduce-itself Or = refl

both-true : (a b : Bool) → (a && b) ≡ true → (a ≡ true) × (b ≡ true)
both-true true true h = (refl, refl)
both-true true false h = absurd cc
both-true false b h = absurd cc

variables-same : (a b : List ℕ) → variables_eq a b ≡ true → a ≡ b
variables-same [] [] h = refl
variables-same [] (y ∷ ys) h = absurd cc
variables-same (x ∷ xs) [] h = absurd cc
variables-same (x ∷ xs) (y ∷ ys) h =
    let parts = both-true (nat_eq x y) (variables_eq xs ys) h in
    ap (λ (v : ℕ). v ∷ xs) (eqb-true x y parts.0) ∙ ap (λ vs. y ∷ vs) (variables-same xs ys parts.1)

variables-itself : (a : List ℕ) → variables_eq a a ≡ true
variables-itself [] = refl
variables-itself (x ∷ xs) = ap (λ b. b && variables_eq xs xs) (eq-eqb x x refl) ∙ variables-itself xs

-- operations that are found the same are equal
pub operation-same : (a b : Operation) → operation_eq a b ≡ true → a ≡ b
operation-same a b h =
    let parts = both-true (reduce_eq a.reduce b.reduce) (variables_eq a.targets b.targets) h in
    ap (λ r. let o : Operation = record { reduce = r; targets = a.targets } in o) (reduce-same a.reduce b.reduce parts.0)
    ∙ ap (λ ts. let o : Operation = record { reduce = b.reduce; targets = ts } in o) (variables-same a.targets b.targets parts.1)

pub operation-itself : (a : Operation) → operation_eq a a ≡ true
operation-itself a = ap (λ b. b && variables_eq a.targets a.targets) (reduce-itself a.reduce) ∙ variables-itself a.targets

-- where two operations differ, so they do the other way round
operation-differs : (a b : Operation) → operation_eq a b ≡ false → operation_eq b a ≡ false
operation-differs a b h = by (operation_eq b a) refl
  where
    by : (c : Bool) → operation_eq b a ≡ c → c ≡ false
    by true k =
        let e = operation-same b a k in
        let bad = sym h ∙ ap (operation_eq a) e ∙ operation-itself a in
        absurd cc
    by false k = refl

-- the other reductions do not stand before the first
abbrev pub IsOrdered : Option Firsts → Type 0
IsOrdered None = Unit {0}
IsOrdered (Some f) = (at : Place) → reaches f.other at ≡ true → place_lt at f.place ≡ false

either : (a b : Bool) (P : Type 0) → (a || b) ≡ true → (a ≡ true → P) → (b ≡ true → P) → P
either true b P h f g = f refl
either false b P h f g = g h

-- what is told of a reduction that does what the first does
same-first : (b o m p q : Bool) → m ≡ (p || q) → (if b then o else m) ≡ ((if b then o else p) || (not b && q))
same-first true o m p q h = sym (or-false o)
same-first false o m p q h = h

-- where a reduction of another operation stands at a place or before it, so does the first
first-stands : (f : Firsts) (op : Operation) (at : Place) → IsOrdered (Some f) → mixes_with (Some f) op at ≡ true → place_lt at f.place ≡ false
first-stands f op at o = by (operation_eq (operation_of f.reduction) op)
  where
    by : (b : Bool) → (if b then reaches f.other at else not (place_lt at f.place)) ≡ true → place_lt at f.place ≡ false
    by true h = o at h
    by false h = not-true (place_lt at f.place) h

-- a new first reduction
before-first : (f : Firsts) (r : Reduction) (p : Place) (op : Operation) (at : Place) → IsOrdered (Some f)
    → operation_eq (operation_of f.reduction) (operation_of r) ≡ false → place_lt p f.place ≡ true
    → (if operation_eq (operation_of r) op then not (place_lt at f.place) else not (place_lt at p)) ≡ (mixes_with (Some f) op at || (not (operation_eq (operation_of r) op) && not (place_lt at p)))
before-first f r p op at o k h = by (operation_eq (operation_of r) op) refl
  where
    by : (b : Bool) → operation_eq (operation_of r) op ≡ b → (if b then not (place_lt at f.place) else not (place_lt at p)) ≡ (mixes_with (Some f) op at || (not b && not (place_lt at p)))
    by true e =
        let other : operation_eq (operation_of f.reduction) op ≡ false = ap (operation_eq (operation_of f.reduction)) (sym (operation-same (operation_of r) op e)) ∙ k in
        sym (or-false (mixes_with (Some f) op at) ∙ ap (λ b. if b then reaches f.other at else not (place_lt at f.place)) other)
    by false e = absorbed (mixes_with (Some f) op at) (not (place_lt at p)) (λ t. ap not (not-lt-down p f.place at h (first-stands f op at o t)))

-- one more of the others
among-others : (f : Firsts) (r : Reduction) (p : Place) (op : Operation) (at : Place)
    → operation_eq (operation_of f.reduction) (operation_of r) ≡ false → place_lt p f.place ≡ false
    → (if operation_eq (operation_of f.reduction) op then reaches (earliest f.other p) at else not (place_lt at f.place)) ≡ (mixes_with (Some f) op at || (not (operation_eq (operation_of r) op) && not (place_lt at p)))
among-others f r p op at k h = by (operation_eq (operation_of f.reduction) op) refl
  where
    stands : (b : Bool) → place_lt at f.place ≡ b → not b ≡ (not b || (not (operation_eq (operation_of r) op) && not (place_lt at p)))
    stands true g = sym (ap (λ b. not (operation_eq (operation_of r) op) && not b) (lt-le at f.place p g h) ∙ and-false (not (operation_eq (operation_of r) op)))
    stands false g = refl

    by : (b : Bool) → operation_eq (operation_of f.reduction) op ≡ b
        → (if b then reaches (earliest f.other p) at else not (place_lt at f.place)) ≡ ((if b then reaches f.other at else not (place_lt at f.place)) || (not (operation_eq (operation_of r) op) && not (place_lt at p)))
    by true e =
        let other : operation_eq (operation_of r) op ≡ false = ap (operation_eq (operation_of r)) (sym (operation-same (operation_of f.reduction) op e)) ∙ operation-differs (operation_of f.reduction) (operation_of r) k in
        reaches-earliest f.other p at ∙ ap (λ b. reaches f.other at || (not b && not (place_lt at p))) (sym other)
    by false e = stands (place_lt at f.place) refl

-- one reduction more
pub mixes-more : (fs : Option Firsts) (r : Reduction) (p : Place) (op : Operation) (at : Place) → IsOrdered fs
    → mixes_with (with_reduction fs r p) op at ≡ (mixes_with fs op at || (not (operation_eq (operation_of r) op) && not (place_lt at p)))
mixes-more None r p op at o = by (operation_eq (operation_of r) op)
  where
    by : (b : Bool) → (if b then false else not (place_lt at p)) ≡ (false || (not b && not (place_lt at p)))
    by true = refl
    by false = refl
mixes-more (Some f) r p op at o = by (operation_eq (operation_of f.reduction) (operation_of r)) refl (place_lt p f.place) refl
  where
    by : (b : Bool) → operation_eq (operation_of f.reduction) (operation_of r) ≡ b → (c : Bool) → place_lt p f.place ≡ c
        → mixes_with (Some (if b then record f { place = earlier f.place p } else (if c then record { reduction = r; place = p; other = Some f.place } else record f { other = earliest f.other p }))) op at
        ≡ (mixes_with (Some f) op at || (not (operation_eq (operation_of r) op) && not (place_lt at p)))
    by true k c h =
        same-first (operation_eq (operation_of f.reduction) op) (reaches f.other at) (not (place_lt at (earlier f.place p))) (not (place_lt at f.place)) (not (place_lt at p)) (reaches-earlier at f.place p)
        ∙ ap (λ a. mixes_with (Some f) op at || (not (operation_eq a op) && not (place_lt at p))) (operation-same (operation_of f.reduction) (operation_of r) k)
    by false k true h = before-first f r p op at o k h
    by false k false h = among-others f r p op at k h

-- the order stays
pub ordered-more : (fs : Option Firsts) (r : Reduction) (p : Place) → IsOrdered fs → IsOrdered (with_reduction fs r p)
ordered-more None r p o = λ at h. absurd cc
ordered-more (Some f) r p o = by (operation_eq (operation_of f.reduction) (operation_of r)) (place_lt p f.place) refl
  where
    by : (b c : Bool) → place_lt p f.place ≡ c
        → IsOrdered (Some (if b then record f { place = earlier f.place p } else (if c then record { reduction = r; place = p; other = Some f.place } else record f { other = earliest f.other p })))
    by true c h = λ at k. lt-earlier at f.place p ∙ ap (λ b. b && place_lt at p) (o at k)
    by false true h = λ at k. not-lt-down p f.place at h (not-true (place_lt at f.place) k)
    by false false h = λ at k.
        either (reaches f.other at) (not (place_lt at p)) (place_lt at f.place ≡ false) (sym (reaches-earliest f.other p at) ∙ k)
        (λ e. o at e) (λ e. not-lt-not-lt at p f.place (not-true (place_lt at p) e) h)
