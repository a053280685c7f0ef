-- Values written at places, as far as a loop has come.
use Rattle.std.proofs.Common.{◌≡◌, ◌∙◌, ◌<◌, ℕ, ◌+◌, zero, suc, List, [], ◌∷◌, ◌++◌, refl, ap, sym, map, take, length, set, get_or, arith, length-take, length-set}
use Rattle.std.proofs.lemmas.List.{take_more}
use Rattle.gm_kernels.specs.Pointwise.{written_at}

written-push : {A : Type 0} (xs : List A) (ks : List ℕ) (ys : List A) (k : ℕ) (y : A) → length ys ≡ length ks
    → written_at xs (ks ++ k ∷ []) (ys ++ y ∷ []) ≡ set (written_at xs ks ys) k y
written-push xs [] [] k y e = refl
written-push xs [] (w ∷ ys) k y e = absurd (omega (arith, e))
written-push xs (j ∷ ks) [] k y e = absurd (omega (arith, e))
written-push xs (j ∷ ks) (w ∷ ys) k y e = written-push (set xs j w) ks ys k y (omega (arith, e))

-- one value more
pub written-more : {A : Type 0} (xs now : List A) (ks : List ℕ) (ys : List A) (n : ℕ) (k : ℕ) (y : A)
    → n < length ks → length ys ≡ length ks
    → k ≡ get_or ks n 0 → y ≡ get_or ys n y
    → now ≡ written_at xs (take n ks) (take n ys)
    → set now k y ≡ written_at xs (take (n + 1) ks) (take (n + 1) ys)
written-more xs now ks ys n k y lt e hk hy so =
    let o : n < length ys = omega (arith, lt, e) in
    let places = take_more ks n 0 lt ∙ ap (λ j. take n ks ++ j ∷ []) (sym hk) in
    let values = take_more ys n y o ∙ ap (λ v. take n ys ++ v ∷ []) (sym hy) in
    ap (λ l. set l k y) so
    ∙ sym (written-push xs (take n ks) (take n ys) k y (omega (arith, length-take n ks, length-take n ys, lt, o)))
    ∙ sym (λ i. written_at xs (places i) (values i))

map-set : {A B : Type 0} (f : A → B) (xs : List A) (k : ℕ) (x : A) → map f (set xs k x) ≡ set (map f xs) k (f x)
map-set f [] k x = refl
map-set f (v ∷ xs) zero x = refl
map-set f (v ∷ xs) (suc k) x = ap (λ l. f v ∷ l) (map-set f xs k x)

-- the values of cells that are written
pub written_values : {A B : Type 0} (f : A → B) (xs : List A) (ks : List ℕ) (ys : List A) → map f (written_at xs ks ys) ≡ written_at (map f xs) ks (map f ys)
written_values f xs [] ys = refl
written_values f xs (k ∷ ks) [] = refl
written_values f xs (k ∷ ks) (y ∷ ys) = written_values f (set xs k y) ks ys ∙ ap (λ l. written_at l ks (map f ys)) (map-set f xs k y)

pub written_long : {A : Type 0} (xs : List A) (ks : List ℕ) (ys : List A) → length (written_at xs ks ys) ≡ length xs
written_long xs [] ys = refl
written_long xs (k ∷ ks) [] = refl
written_long xs (k ∷ ks) (y ∷ ys) = written_long (set xs k y) ks ys ∙ length-set xs k y
