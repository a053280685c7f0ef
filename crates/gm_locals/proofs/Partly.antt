-- Lists whose elements a loop changes one after another: each alone, or each by what was gathered from those before it.
use Rattle.std.proofs.Common.{◌≡◌, ◌<◌, ◌≤◌, ◌+◌, ℕ, zero, suc, List, [], ◌∷◌, ◌++◌, length, map, get_or, refl, sym, ap, ◌∙◌, arith, add-one, append-nil, append_assoc, length-append}
use Rattle.std.proofs.Math.ListN.{set}

-- g changes an element from a number on, and takes as many numbers as the list has that c gives
module _ {A : Type 0} (g : ℕ → A → A) (c : A → List ℕ) where
  abbrev pub changed : ℕ → List A → List A
  changed n [] = []
  changed n (x ∷ xs) = g n x ∷ changed (n + length (c x)) xs

  abbrev pub gathered : List A → List ℕ
  gathered [] = []
  gathered (x ∷ xs) = c x ++ gathered xs

  -- the same where the elements before an index are changed
  abbrev pub partly : ℕ → ℕ → List A → List A
  partly zero n xs = xs
  partly (suc i) n [] = []
  partly (suc i) n (x ∷ xs) = g n x ∷ partly i (n + length (c x)) xs

  abbrev pub gathered_before : ℕ → List A → List ℕ
  gathered_before zero xs = []
  gathered_before (suc i) [] = []
  gathered_before (suc i) (x ∷ xs) = c x ++ gathered_before i xs

  module _ {X : Type 0} (f : X → A) where
    one_more : (xs : List A) (ys : List X) (i n : ℕ) (d y : X) → map f ys ≡ partly i n xs → i < length ys → f y ≡ g (n + length (gathered_before i xs)) (f (get_or ys i d)) → map f (set ys i y) ≡ partly (suc i) n xs
    one_more xs [] i n d y e l k = absurd (omega arith)
    one_more [] (z ∷ ys) zero n d y e l k = cc
    one_more [] (z ∷ ys) (suc i) n d y e l k = cc
    one_more (x ∷ xs) (z ∷ ys) zero n d y e l k =
        let none : n + 0 ≡ n = omega arith in
        let here : f y ≡ g n (f z) = k ∙ ap (λ m. g m (f z)) none in
        cc
    one_more (x ∷ xs) (z ∷ ys) (suc i) n d y e l k =
        let rest : map f ys ≡ partly i (n + length (c x)) xs = cc in
        let less : i < length ys = omega arith in
        let long = length-append (c x) (gathered_before i xs) in
        let there : n + length (c x ++ gathered_before i xs) ≡ (n + length (c x)) + length (gathered_before i xs) = omega (arith, long) in
        let more : map f (set ys i y) ≡ partly (suc i) (n + length (c x)) xs = one_more xs ys i (n + length (c x)) d y rest less (k ∙ ap (λ m. g m (f (get_or ys i d))) there) in
        cc

    -- one more is changed
    pub partly-more : (xs : List A) (ys : List X) (i n : ℕ) (d y : X) → map f ys ≡ partly i n xs → i < length ys → f y ≡ g (n + length (gathered_before i xs)) (f (get_or ys i d)) → map f (set ys i y) ≡ partly (i + 1) n xs
    partly-more xs ys i n d y e l k = rw add-one (one_more xs ys i n d y e l k)

    gathers : (xs : List A) (ys : List X) (i n : ℕ) (d : X) → map f ys ≡ partly i n xs → i < length ys → gathered_before (suc i) xs ≡ gathered_before i xs ++ c (f (get_or ys i d))
    gathers xs [] i n d e l = absurd (omega arith)
    gathers [] (z ∷ ys) zero n d e l = cc
    gathers [] (z ∷ ys) (suc i) n d e l = cc
    gathers (x ∷ xs) (z ∷ ys) zero n d e l =
        let same : f z ≡ x = cc in
        append-nil (c x) ∙ ap c (sym same)
    gathers (x ∷ xs) (z ∷ ys) (suc i) n d e l =
        let rest : map f ys ≡ partly i (n + length (c x)) xs = cc in
        let less : i < length ys = omega arith in
        ap (λ l. c x ++ l) (gathers xs ys i (n + length (c x)) d rest less) ∙ sym (append_assoc (c x) (gathered_before i xs) (c (f (get_or ys i d))))

    pub gathered-more : (xs : List A) (ys : List X) (i n : ℕ) (d : X) → map f ys ≡ partly i n xs → i < length ys → gathered_before (i + 1) xs ≡ gathered_before i xs ++ c (f (get_or ys i d))
    gathered-more xs ys i n d e l = rw add-one (gathers xs ys i n d e l)

  -- all are
  pub partly-all : (xs : List A) (i n : ℕ) → length xs ≤ i → partly i n xs ≡ changed n xs
  partly-all [] zero n l = refl
  partly-all [] (suc i) n l = refl
  partly-all (x ∷ xs) zero n l = absurd (omega arith)
  partly-all (x ∷ xs) (suc i) n l = ap (λ r. g n x ∷ r) (partly-all xs i (n + length (c x)) (omega arith))

  pub gathered-all : (xs : List A) (i : ℕ) → length xs ≤ i → gathered_before i xs ≡ gathered xs
  gathered-all [] zero l = refl
  gathered-all [] (suc i) l = refl
  gathered-all (x ∷ xs) zero l = absurd (omega arith)
  gathered-all (x ∷ xs) (suc i) l = ap (λ m. c x ++ m) (gathered-all xs i (omega arith))
