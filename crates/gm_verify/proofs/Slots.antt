-- The targets of a reduction that are left.
use Rattle.std.proofs.Common.{◌≡◌, ◌+◌, ◌<◌, ◌≤◌, ℕ, suc, Bool, true, false, List, [], ◌∷◌, ◌++◌, drop, take, length, map, get_or, refl, sym, ap, ◌∙◌}
use Rattle.std.specs.Prelude.{nat_eq, ◌==◌, ◌&&◌, ◌||◌}
use Rattle.std.proofs.lemmas.List.{take_more}
use Rattle.gm_image.specs.Folds.{same_numbers}
use Rattle.gm_image.specs.declared.lines.Expr.{Expr}
use Rattle.gm_image.specs.Views.{target}
use Rattle.gm_image.specs.Parts.{slots_of, is_among}
use Rattle.gm_verify.proofs.Lists.{drop-item, nothing-left, any-push, taken-all}

pub slots-at : (ts : List (ℕ × Expr)) (i : ℕ) (t : ℕ × Expr) → i < length ts → t ≡ get_or ts i t
    → slots_of (map target (drop i ts)) ≡ t.0 ∷ slots_of (map target (drop (i + 1) ts))
slots-at ts i t lt is = ap (λ (us : List (ℕ × Expr)). slots_of (map target us)) (drop-item ts i t lt is)

pub slots-end : (ts : List (ℕ × Expr)) (i : ℕ) → length ts ≤ i → slots_of (map target (drop i ts)) ≡ []
slots-end ts i end = ap (λ (us : List (ℕ × Expr)). slots_of (map target us)) (nothing-left ts i end)

pub length-slots : (ts : List (ℕ × Expr)) → length (slots_of (map target ts)) ≡ length ts
length-slots [] = refl
length-slots (t ∷ ts) = ap suc (length-slots ts)

and-false : (b : Bool) → false ≡ (b && false)
and-false true = refl
and-false false = refl

pub same_numbers-uneven : (xs ys : List ℕ) → (length xs ≡ length ys → ⊥) → false ≡ same_numbers xs ys
same_numbers-uneven [] [] apart = absurd (apart refl)
same_numbers-uneven [] (y ∷ ys) apart = refl
same_numbers-uneven (x ∷ xs) [] apart = refl
same_numbers-uneven (x ∷ xs) (y ∷ ys) apart =
    and-false (nat_eq x y) ∙ ap (λ (b : Bool). nat_eq x y && b) (same_numbers-uneven xs ys (λ e. apart (ap suc e)))

slots-append : (ts us : List (ℕ × Expr)) → slots_of (map target (ts ++ us)) ≡ slots_of (map target ts) ++ slots_of (map target us)
slots-append [] us = refl
slots-append (t ∷ ts) us = ap (λ (xs : List ℕ). t.0 ∷ xs) (slots-append ts us)

-- whether a number is among the slots so far, with one more
pub among-more : (ts : List (ℕ × Expr)) (i : ℕ) (t : ℕ × Expr) (n : ℕ) → i < length ts → t ≡ get_or ts i t
    → is_among n (slots_of (map target (take (i + 1) ts))) ≡ (t.0 == n || is_among n (slots_of (map target (take i ts))))
among-more ts i t n lt is =
    ap (λ (us : List (ℕ × Expr)). is_among n (slots_of (map target us))) (take_more ts i t lt ∙ ap (λ (u : ℕ × Expr). take i ts ++ u ∷ []) (sym is))
    ∙ ap (is_among n) (slots-append (take i ts) (t ∷ []))
    ∙ any-push (λ m. m == n) (slots_of (map target (take i ts))) t.0

pub or-swap : (a b : Bool) → (a || b) ≡ (b || a)
or-swap true true = refl
or-swap true false = refl
or-swap false true = refl
or-swap false false = refl

pub or-assoc : (a b c : Bool) → ((a || b) || c) ≡ (a || (b || c))
or-assoc true b c = refl
or-assoc false b c = refl

pub or-none : (b : Bool) → b ≡ (b || false)
or-none true = refl
or-none false = refl

-- all slots were so far
pub among-all : (ts : List (ℕ × Expr)) (i n : ℕ) → length ts ≤ i → is_among n (slots_of (map target (take i ts))) ≡ is_among n (slots_of (map target ts))
among-all ts i n end = ap (λ (us : List (ℕ × Expr)). is_among n (slots_of (map target us))) (taken-all ts i end)
