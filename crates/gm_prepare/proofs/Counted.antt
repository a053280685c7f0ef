-- Lists whose elements a loop changes one after another, each by how much those before it count.
use Rattle.std.proofs.Common.{◌≡◌, ◌<◌, ◌≤◌, ◌+◌, ℕ, zero, suc, List, [], ◌∷◌, length, map, get_or, refl, sym, ap, ◌∙◌, arith, add-one}
use Rattle.std.proofs.Math.ListN.{set}

-- g changes an element by a number, and each counts as much as c gives
module _ {A : Type 0} (g : ℕ → A → A) (c : A → ℕ) where
  abbrev pub changed : ℕ → List A → List A
  changed n [] = []
  changed n (x ∷ xs) = g n x ∷ changed (n + c x) xs

  abbrev pub counted : List A → ℕ
  counted [] = 0
  counted (x ∷ xs) = c x + counted xs

  -- the same where the elements before an index are changed
  abbrev pub partly : ℕ → ℕ → List A → List A
  partly zero n xs = xs
  partly (suc i) n [] = []
  partly (suc i) n (x ∷ xs) = g n x ∷ partly i (n + c x) xs

  abbrev pub counted_before : ℕ → List A → ℕ
  counted_before zero xs = 0
  counted_before (suc i) [] = 0
  counted_before (suc i) (x ∷ xs) = c x + counted_before i xs

  module _ {X : Type 0} (f : X → A) where
    one_more : (xs : List A) (ys : List X) (i n : ℕ) (d y : X) → map f ys ≡ partly i n xs → i < length ys → f y ≡ g (n + counted_before i xs) (f (get_or ys i d)) → map f (set ys i y) ≡ partly (suc i) n xs
    one_more xs [] i n d y e l k = absurd (omega arith)
    one_more [] (z ∷ ys) zero n d y e l k = cc
    one_more [] (z ∷ ys) (suc i) n d y e l k = cc
    one_more (x ∷ xs) (z ∷ ys) zero n d y e l k =
        let none : n + 0 ≡ n = omega arith in
        let here : f y ≡ g n (f z) = k ∙ ap (λ m. g m (f z)) none in
        cc
    one_more (x ∷ xs) (z ∷ ys) (suc i) n d y e l k =
        let rest : map f ys ≡ partly i (n + c x) xs = cc in
        let less : i < length ys = omega arith in
        let there : n + (c x + counted_before i xs) ≡ (n + c x) + counted_before i xs = omega arith in
        let more : map f (set ys i y) ≡ partly (suc i) (n + c x) xs = one_more xs ys i (n + c x) d y rest less (k ∙ ap (λ m. g m (f (get_or ys i d))) there) in
        cc

    -- one more is changed
    pub partly-more : (xs : List A) (ys : List X) (i n : ℕ) (d y : X) → map f ys ≡ partly i n xs → i < length ys → f y ≡ g (n + counted_before i xs) (f (get_or ys i d)) → map f (set ys i y) ≡ partly (i + 1) n xs
    partly-more xs ys i n d y e l k = rw add-one (one_more xs ys i n d y e l k)

    counts : (xs : List A) (ys : List X) (i n : ℕ) (d : X) → map f ys ≡ partly i n xs → i < length ys → counted_before (suc i) xs ≡ counted_before i xs + c (f (get_or ys i d))
    counts xs [] i n d e l = absurd (omega arith)
    counts [] (z ∷ ys) zero n d e l = cc
    counts [] (z ∷ ys) (suc i) n d e l = cc
    counts (x ∷ xs) (z ∷ ys) zero n d e l =
        let same : f z ≡ x = cc in
        let one : c x ≡ c (f z) = ap c (sym same) in
        omega (arith, one)
    counts (x ∷ xs) (z ∷ ys) (suc i) n d e l =
        let rest : map f ys ≡ partly i (n + c x) xs = cc in
        let less : i < length ys = omega arith in
        let more = counts xs ys i (n + c x) d rest less in
        omega (arith, more)

    pub counted-more : (xs : List A) (ys : List X) (i n : ℕ) (d : X) → map f ys ≡ partly i n xs → i < length ys → counted_before (i + 1) xs ≡ counted_before i xs + c (f (get_or ys i d))
    counted-more xs ys i n d e l = rw add-one (counts xs ys i n d e l)

  -- all are
  pub partly-all : (xs : List A) (i n : ℕ) → length xs ≤ i → partly i n xs ≡ changed n xs
  partly-all [] zero n l = refl
  partly-all [] (suc i) n l = refl
  partly-all (x ∷ xs) zero n l = absurd (omega arith)
  partly-all (x ∷ xs) (suc i) n l = ap (λ r. g n x ∷ r) (partly-all xs i (n + c x) (omega arith))

  pub counted-all : (xs : List A) (i : ℕ) → length xs ≤ i → counted_before i xs ≡ counted xs
  counted-all [] zero l = refl
  counted-all [] (suc i) l = refl
  counted-all (x ∷ xs) zero l = absurd (omega arith)
  counted-all (x ∷ xs) (suc i) l = ap (λ m. c x + m) (counted-all xs i (omega arith))
