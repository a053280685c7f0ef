-- The items that a loop has still to visit.
use Rattle.std.proofs.Common.{◌≡◌, ◌<◌, ◌≤◌, ◌+◌, ℕ, zero, suc, List, [], ◌∷◌, drop, length, get_or, drop-cons, ap, sym, refl, ◌∙◌, arith}

-- the first of the items that are left
pub drop-item : {A : Type 0} (xs : List A) (i : ℕ) (x : A) → i < length xs → x ≡ get_or xs i x → drop i xs ≡ x ∷ drop (i + 1) xs
drop-item xs i x lt at =
    let next : i + 1 ≡ suc i = omega arith in
    drop-cons xs i x lt ∙ ap (λ y. y ∷ drop (suc i) xs) (sym at) ∙ ap (λ (k : ℕ). x ∷ drop k xs) (sym next)

-- no item is left
pub nothing-left : {A : Type 0} (xs : List A) (i : ℕ) → length xs ≤ i → drop i xs ≡ []
nothing-left [] zero end = refl
nothing-left [] (suc i) end = refl
nothing-left (x ∷ xs) zero end = absurd (omega arith)
nothing-left (x ∷ xs) (suc i) end = nothing-left xs i (omega arith)

-- the same, by an index
pub drop-at : {A : Type 0} (xs : List A) (i : ℕ) (d : A) → i < length xs → drop i xs ≡ get_or xs i d ∷ drop (i + 1) xs
drop-at xs i d lt =
    let next : i + 1 ≡ suc i = omega arith in
    drop-cons xs i d lt ∙ ap (λ (k : ℕ). get_or xs i d ∷ drop k xs) (sym next)
