-- Loops that go along a list and add what each element gives, from a number on.
use Rattle.std.proofs.Common.{◌≡◌, ◌<◌, ◌≤◌, ◌+◌, ◌++◌, ℕ, List, [], ◌∷◌, length, drop, get_or, sym, ap, ◌∙◌, arith, append_assoc}
use Rattle.std.proofs.lemmas.List.{append-nil, drop_more, drop_all}

-- F gives for a list what f gives for each element, each from the number behind those that c counts before it
module _ {A B : Type 0} (f : ℕ → A → List B) (c : A → ℕ) (F : ℕ → List A → List B) (none : (n : ℕ) → F n [] ≡ []) (step : (n : ℕ) (x : A) (xs : List A) → F n (x ∷ xs) ≡ f n x ++ F (n + c x) xs) where
  pub gathered-more : (xs : List A) (i : ℕ) (d : A) (n m : ℕ) (so_far more whole : List B) → i < length xs → so_far ++ F n (drop i xs) ≡ whole → more ≡ so_far ++ f n (get_or xs i d) → m ≡ n + c (get_or xs i d) → more ++ F m (drop (i + 1) xs) ≡ whole
  gathered-more xs i d n m so_far more whole lt h is next =
      let x = get_or xs i d in
      let rest = drop (i + 1) xs in
      ap (λ l. l ++ F m rest) is ∙ ap (λ k. (so_far ++ f n x) ++ F k rest) next ∙ append_assoc so_far (f n x) (F (n + c x) rest) ∙ ap (λ l. so_far ++ l) (sym (ap (F n) (drop_more xs i d lt) ∙ step n x rest)) ∙ h

  pub gathered-all : (xs : List A) (i n : ℕ) (so_far whole : List B) → length xs ≤ i → so_far ++ F n (drop i xs) ≡ whole → so_far ≡ whole
  gathered-all xs i n so_far whole le h = sym (append-nil so_far) ∙ ap (λ l. so_far ++ l) (sym (ap (F n) (drop_all i xs le) ∙ none n)) ∙ h

-- and C counts them
module _ {A : Type 0} (c : A → ℕ) (C : List A → ℕ) (none : C [] ≡ 0) (step : (x : A) (xs : List A) → C (x ∷ xs) ≡ c x + C xs) where
  pub counted-more : (xs : List A) (i : ℕ) (d : A) (n m whole : ℕ) → i < length xs → n + C (drop i xs) ≡ whole → m ≡ n + c (get_or xs i d) → m + C (drop (i + 1) xs) ≡ whole
  counted-more xs i d n m whole lt h next =
      let one : C (drop i xs) ≡ c (get_or xs i d) + C (drop (i + 1) xs) = ap C (drop_more xs i d lt) ∙ step (get_or xs i d) (drop (i + 1) xs) in
      omega (arith, h, next, one)

  pub counted-all : (xs : List A) (i n whole : ℕ) → length xs ≤ i → n + C (drop i xs) ≡ whole → n ≡ whole
  counted-all xs i n whole le h = let end : C (drop i xs) ≡ 0 = ap C (drop_all i xs le) ∙ none in omega (arith, h, end)
