-- Lists whose elements a loop changes one after another.
use Rattle.std.proofs.Common.{◌≡◌, ℕ, zero, suc, ◌+◌, ◌<◌, ◌≤◌, List, [], ◌∷◌, length, map, get_or, refl, ap, arith, add-one}
use Rattle.std.proofs.Math.ListN.{set}

-- a list with a function at the elements before an index
abbrev pub partly : {A : Type 0} → (A → A) → ℕ → List A → List A
partly h zero xs = xs
partly h (suc n) [] = []
partly h (suc n) (x ∷ xs) = h x ∷ partly h n xs

module _ {X A : Type 0} (f : X → A) (h : A → A) where
  one_more : (xs ys : List X) (n : ℕ) (d y : X) → map f ys ≡ partly h n (map f xs) → n < length ys → f y ≡ h (f (get_or ys n d)) → map f (set ys n y) ≡ partly h (suc n) (map f xs)
  one_more xs [] n d y e l k = absurd (omega arith)
  one_more [] (z ∷ ys) zero d y e l k = cc
  one_more [] (z ∷ ys) (suc n) d y e l k = cc
  one_more (x ∷ xs) (z ∷ ys) zero d y e l k = cc
  one_more (x ∷ xs) (z ∷ ys) (suc n) d y e l k =
      let rest : map f ys ≡ partly h n (map f xs) = cc in
      let less : n < length ys = omega arith in
      let more : map f (set ys n y) ≡ partly h (suc n) (map f xs) = one_more xs ys n d y rest less k in
      cc

  -- one more element is changed
  pub partly-more : (xs ys : List X) (n : ℕ) (d y : X) → map f ys ≡ partly h n (map f xs) → n < length ys → f y ≡ h (f (get_or ys n d)) → map f (set ys n y) ≡ partly h (n + 1) (map f xs)
  partly-more xs ys n d y e l k = rw add-one (one_more xs ys n d y e l k)

-- all are
pub partly-all : {A : Type 0} (h : A → A) (xs : List A) (n : ℕ) → length xs ≤ n → partly h n xs ≡ map h xs
partly-all h [] zero l = refl
partly-all h [] (suc n) l = refl
partly-all h (x ∷ xs) zero l = absurd (omega arith)
partly-all h (x ∷ xs) (suc n) l = ap (λ r. h x ∷ r) (partly-all h xs n (omega arith))
