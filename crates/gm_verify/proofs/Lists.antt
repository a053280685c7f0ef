-- Tests of the items of a list.
use Rattle.std.proofs.Common.{◌≡◌, ◌+◌, ◌<◌, ◌≤◌, ℕ, zero, suc, Bool, true, false, List, [], ◌∷◌, ◌++◌, length, drop, take, get_or, drop-cons, refl, sym, ap, ◌∙◌, arith}
use Rattle.std.specs.Prelude.{◌&&◌, ◌||◌}
use Rattle.std.specs.List.{list_all, list_any}

-- the first of the items that are left
pub drop-item : {A : Type 0} (xs : List A) (i : ℕ) (x : A) → i < length xs → x ≡ get_or xs i x → drop i xs ≡ x ∷ drop (i + 1) xs
drop-item xs i x lt at =
    let next : i + 1 ≡ suc i = omega arith in
    drop-cons xs i x lt ∙ ap (λ y. y ∷ drop (suc i) xs) (sym at) ∙ ap (λ (k : ℕ). x ∷ drop k xs) (sym next)

-- no item is left
pub nothing-left : {A : Type 0} (xs : List A) (i : ℕ) → length xs ≤ i → drop i xs ≡ []
nothing-left [] zero end = refl
nothing-left [] (suc i) end = refl
nothing-left (x ∷ xs) zero end = absurd (omega arith)
nothing-left (x ∷ xs) (suc i) end = nothing-left xs i (omega arith)

or-false : (b : Bool) → (b || false) ≡ b
or-false true = refl
or-false false = refl

or-swap : (a b c : Bool) → (a || (b || c)) ≡ (b || (a || c))
or-swap true true c = refl
or-swap true false c = refl
or-swap false b c = refl

-- a test of a list with one more item
pub any-push : {A : Type 0} (p : A → Bool) (xs : List A) (y : A) → list_any p (xs ++ y ∷ []) ≡ (p y || list_any p xs)
any-push p [] y = refl
any-push p (x ∷ xs) y = ap (λ (b : Bool). p x || b) (any-push p xs y) ∙ or-swap (p x) (p y) (list_any p xs)

-- tests that agree
pub all-same : {A : Type 0} (f g : A → Bool) → ((x : A) → f x ≡ g x) → (xs : List A) → list_all f xs ≡ list_all g xs
all-same f g h [] = refl
all-same f g h (x ∷ xs) = ap (λ (b : Bool). b && list_all f xs) (h x) ∙ ap (λ (b : Bool). g x && b) (all-same f g h xs)

pub length-take-le : {A : Type 0} (i : ℕ) (xs : List A) → length (take i xs) ≤ length xs
length-take-le zero xs = omega arith
length-take-le (suc i) [] = omega arith
length-take-le (suc i) (x ∷ xs) =
    let rest : length (take i xs) ≤ length xs = length-take-le i xs in
    omega (arith, rest)

pub and-true : (b : Bool) → b ≡ (b && true)
and-true true = refl
and-true false = refl

-- all items of a list
pub taken-all : {A : Type 0} (xs : List A) (i : ℕ) → length xs ≤ i → take i xs ≡ xs
taken-all [] zero end = refl
taken-all [] (suc i) end = refl
taken-all (x ∷ xs) zero end = absurd (omega arith)
taken-all (x ∷ xs) (suc i) end = ap (λ ys. x ∷ ys) (taken-all xs i (omega arith))
