-- The items that a loop has still to visit.
use Rattle.std.proofs.Common.{◌≡◌, ◌<◌, ◌+◌, ℕ, suc, List, ◌∷◌, drop, length, get_or, drop-cons, ap, sym, ◌∙◌, arith}

-- the first of the items that are left
pub drop-item : {A : Type 0} (xs : List A) (i : ℕ) (x : A) → i < length xs → x ≡ get_or xs i x → drop i xs ≡ x ∷ drop (i + 1) xs
drop-item xs i x lt at =
    let next : i + 1 ≡ suc i = omega arith in
    drop-cons xs i x lt ∙ ap (λ y. y ∷ drop (suc i) xs) (sym at) ∙ ap (λ (k : ℕ). x ∷ drop k xs) (sym next)
