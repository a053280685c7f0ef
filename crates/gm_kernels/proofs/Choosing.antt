-- Rows chosen by flags, as far as a loop has come.
use Rattle.std.proofs.Common.{◌≡◌, ◌∙◌, ◌<◌, ℕ, ◌+◌, zero, suc, Bool, true, false, List, [], ◌∷◌, ◌++◌, refl, ap, sym, map, take, length, set, get_or, if◌then◌else◌, arith, length-take}
use Rattle.std.proofs.lemmas.List.{take_more, take_more_set}
use Rattle.gm_kernels.specs.Pointwise.{chosen, places_from}

chosen-push : {A : Type 0} (cs : List Bool) (xs ys : List A) (c : Bool) (x y : A) → length xs ≡ length cs → length ys ≡ length cs
    → chosen (cs ++ c ∷ []) (xs ++ x ∷ []) (ys ++ y ∷ []) ≡ chosen cs xs ys ++ (if c then x else y) ∷ []
chosen-push [] [] [] true x y e f = refl
chosen-push [] [] [] false x y e f = refl
chosen-push [] (v ∷ xs) ys c x y e f = absurd (omega (arith, e))
chosen-push [] [] (w ∷ ys) c x y e f = absurd (omega (arith, f))
chosen-push (d ∷ cs) [] ys c x y e f = absurd (omega (arith, e))
chosen-push (d ∷ cs) (v ∷ xs) [] c x y e f = absurd (omega (arith, f))
chosen-push (true ∷ cs) (v ∷ xs) (w ∷ ys) c x y e f = ap (λ l. v ∷ l) (chosen-push cs xs ys c x y (omega (arith, e)) (omega (arith, f)))
chosen-push (false ∷ cs) (v ∷ xs) (w ∷ ys) c x y e f = ap (λ l. w ∷ l) (chosen-push cs xs ys c x y (omega (arith, e)) (omega (arith, f)))

-- one row more
pub chosen-more : {A : Type 0} (cs : List Bool) (xs ys out : List A) (k : ℕ) (x y : A) (cell : A)
    → k < length cs → length xs ≡ length cs → length ys ≡ length cs → length out ≡ length cs
    → x ≡ get_or xs k x → y ≡ get_or ys k y → cell ≡ (if get_or cs k false then x else y)
    → take k out ≡ chosen (take k cs) (take k xs) (take k ys)
    → take (k + 1) (set out k cell) ≡ chosen (take (k + 1) cs) (take (k + 1) xs) (take (k + 1) ys)
chosen-more cs xs ys out k x y cell lt ex ey eo hx hy here so =
    let a : k < length xs = omega (arith, lt, ex) in
    let b : k < length ys = omega (arith, lt, ey) in
    let o : k < length out = omega (arith, lt, eo) in
    let left = take_more xs k x a ∙ ap (λ v. take k xs ++ v ∷ []) (sym hx) in
    let right = take_more ys k y b ∙ ap (λ v. take k ys ++ v ∷ []) (sym hy) in
    let flag = take_more cs k false lt in
    take_more_set out k cell o
    ∙ (λ i. so i ++ here i ∷ [])
    ∙ sym (chosen-push (take k cs) (take k xs) (take k ys) (get_or cs k false) x y
    (omega (arith, length-take k xs, length-take k cs, a, lt)) (omega (arith, length-take k ys, length-take k cs, b, lt)))
    ∙ sym (λ i. chosen (flag i) (left i) (right i))

-- values of what is chosen
pub chosen_values : {A B : Type 0} (f : A → B) (cs : List Bool) (xs ys : List A) → map f (chosen cs xs ys) ≡ chosen cs (map f xs) (map f ys)
chosen_values f [] xs ys = refl
chosen_values f (true ∷ cs) [] ys = refl
chosen_values f (true ∷ cs) (x ∷ xs) [] = refl
chosen_values f (true ∷ cs) (x ∷ xs) (y ∷ ys) = ap (λ l. f x ∷ l) (chosen_values f cs xs ys)
chosen_values f (false ∷ cs) [] ys = refl
chosen_values f (false ∷ cs) (x ∷ xs) [] = refl
chosen_values f (false ∷ cs) (x ∷ xs) (y ∷ ys) = ap (λ l. f y ∷ l) (chosen_values f cs xs ys)

-- the places of some flags, and of one more
pub places-push : (k : ℕ) (cs : List Bool) (c : Bool) → places_from k (cs ++ c ∷ []) ≡ places_from k cs ++ places_from (k + length cs) (c ∷ [])
places-push k [] c = ap (λ n. places_from n (c ∷ [])) (omega arith)
places-push k (true ∷ cs) c = ap (λ l. k ∷ l) (places-push (k + 1) cs c ∙ ap (λ n. places_from (k + 1) cs ++ places_from n (c ∷ [])) (omega arith))
places-push k (false ∷ cs) c = places-push (k + 1) cs c ∙ ap (λ n. places_from (k + 1) cs ++ places_from n (c ∷ [])) (omega arith)

-- the places so far, and one row more
pub places-more : (cs : List Bool) (k : ℕ) → k < length cs
    → places_from 0 (take (k + 1) cs) ≡ places_from 0 (take k cs) ++ places_from k (get_or cs k false ∷ [])
places-more cs k lt =
    ap (places_from 0) (take_more cs k false lt)
    ∙ places-push 0 (take k cs) (get_or cs k false)
    ∙ ap (λ n. places_from 0 (take k cs) ++ places_from n (get_or cs k false ∷ [])) (omega (arith, length-take k cs, lt))
