-- Rows parted by flags, as far as a loop has come, and put together again.
use Rattle.std.proofs.Common.{◌≡◌, ◌∙◌, ◌<◌, ◌≤◌, ℕ, ◌+◌, ◌-◌, zero, suc, Bool, true, false, List, [], ◌∷◌, ◌++◌, refl, ap, sym, map, take, length, get_or, arith, length-take}
use Rattle.std.proofs.lemmas.List.{take_more}
use Rattle.std.proofs.lemmas.Bool.{true≢false}
use Rattle.std.specs.List.{range_with_len}
use Rattle.gm_kernels.specs.Pointwise.{count_of, held, left_out, merged}

held-push : {A : Type 0} (cs : List Bool) (xs : List A) (c : Bool) (x : A) → length xs ≡ length cs
    → held (cs ++ c ∷ []) (xs ++ x ∷ []) ≡ held cs xs ++ held (c ∷ []) (x ∷ [])
held-push [] [] c x e = refl
held-push [] (y ∷ xs) c x e = absurd (omega (arith, e))
held-push (d ∷ cs) [] c x e = absurd (omega (arith, e))
held-push (true ∷ cs) (y ∷ xs) c x e = ap (λ l. y ∷ l) (held-push cs xs c x (omega (arith, e)))
held-push (false ∷ cs) (y ∷ xs) c x e = held-push cs xs c x (omega (arith, e))

left-push : {A : Type 0} (cs : List Bool) (xs : List A) (c : Bool) (x : A) → length xs ≡ length cs
    → left_out (cs ++ c ∷ []) (xs ++ x ∷ []) ≡ left_out cs xs ++ left_out (c ∷ []) (x ∷ [])
left-push [] [] c x e = refl
left-push [] (y ∷ xs) c x e = absurd (omega (arith, e))
left-push (d ∷ cs) [] c x e = absurd (omega (arith, e))
left-push (true ∷ cs) (y ∷ xs) c x e = left-push cs xs c x (omega (arith, e))
left-push (false ∷ cs) (y ∷ xs) c x e = ap (λ l. y ∷ l) (left-push cs xs c x (omega (arith, e)))

-- one row more
one-more : {A B : Type 0} (f : List Bool → List A → B) (cs : List Bool) (xs : List A) (k : ℕ) (d : A) → k < length cs → length xs ≡ length cs
    → f (take k cs ++ get_or cs k false ∷ []) (take k xs ++ get_or xs k d ∷ []) ≡ f (take (k + 1) cs) (take (k + 1) xs)
one-more f cs xs k d lt e =
    let flag = take_more cs k false lt in
    let row = take_more xs k d (omega (arith, lt, e)) in
    sym (λ i. f (flag i) (row i))

pub held-more : {A : Type 0} (cs : List Bool) (xs : List A) (k : ℕ) (d : A) → k < length cs → length xs ≡ length cs
    → held (take k cs) (take k xs) ++ held (get_or cs k false ∷ []) (get_or xs k d ∷ []) ≡ held (take (k + 1) cs) (take (k + 1) xs)
held-more cs xs k d lt e =
    sym (held-push (take k cs) (take k xs) (get_or cs k false) (get_or xs k d) (omega (arith, length-take k xs, length-take k cs, e, lt)))
    ∙ one-more held cs xs k d lt e

pub left-more : {A : Type 0} (cs : List Bool) (xs : List A) (k : ℕ) (d : A) → k < length cs → length xs ≡ length cs
    → left_out (take k cs) (take k xs) ++ left_out (get_or cs k false ∷ []) (get_or xs k d ∷ []) ≡ left_out (take (k + 1) cs) (take (k + 1) xs)
left-more cs xs k d lt e =
    sym (left-push (take k cs) (take k xs) (get_or cs k false) (get_or xs k d) (omega (arith, length-take k xs, length-take k cs, e, lt)))
    ∙ one-more left_out cs xs k d lt e

-- not more flags hold than there are
pub few : (cs : List Bool) → count_of cs ≤ length cs
few [] = omega arith
few (true ∷ cs) = omega (arith, few cs)
few (false ∷ cs) = omega (arith, few cs)

-- one flag more
count-true : (cs : List Bool) (k : ℕ) → k < length cs → get_or cs k false ≡ true → count_of (take (suc k) cs) ≡ count_of (take k cs) + 1
count-true [] k lt e = absurd (omega (arith, lt))
count-true (true ∷ cs) zero lt e = omega arith
count-true (false ∷ cs) zero lt e = absurd (true≢false (sym e))
count-true (true ∷ cs) (suc k) lt e = omega (arith, count-true cs k (omega (arith, lt)) e)
count-true (false ∷ cs) (suc k) lt e = count-true cs k (omega (arith, lt)) e

count-false : (cs : List Bool) (k : ℕ) → k < length cs → get_or cs k false ≡ false → count_of (take (suc k) cs) ≡ count_of (take k cs)
count-false [] k lt e = absurd (omega (arith, lt))
count-false (true ∷ cs) zero lt e = absurd (true≢false e)
count-false (false ∷ cs) zero lt e = refl
count-false (true ∷ cs) (suc k) lt e = omega (arith, count-false cs k (omega (arith, lt)) e)
count-false (false ∷ cs) (suc k) lt e = count-false cs k (omega (arith, lt)) e

pub count-held : (cs : List Bool) (k : ℕ) → k < length cs → get_or cs k false ≡ true → count_of (take (k + 1) cs) ≡ count_of (take k cs) + 1
count-held cs k lt e = let on : k + 1 ≡ suc k = omega arith in ap (λ n. count_of (take n cs)) on ∙ count-true cs k lt e

pub count-left : (cs : List Bool) (k : ℕ) → k < length cs → get_or cs k false ≡ false → count_of (take (k + 1) cs) ≡ count_of (take k cs)
count-left cs k lt e = let on : k + 1 ≡ suc k = omega arith in ap (λ n. count_of (take n cs)) on ∙ count-false cs k lt e

-- a flag that holds, and one that does not, is one of those that are counted
pub room-true : (cs : List Bool) (k : ℕ) → k < length cs → get_or cs k false ≡ true → count_of (take k cs) < count_of cs
room-true [] k lt e = absurd (omega (arith, lt))
room-true (true ∷ cs) zero lt e = omega arith
room-true (false ∷ cs) zero lt e = absurd (true≢false (sym e))
room-true (true ∷ cs) (suc k) lt e = omega (arith, room-true cs k (omega (arith, lt)) e)
room-true (false ∷ cs) (suc k) lt e = omega (arith, room-true cs k (omega (arith, lt)) e)

pub room-false : (cs : List Bool) (k : ℕ) → k < length cs → get_or cs k false ≡ false → k + count_of cs < length cs + count_of (take k cs)
room-false [] k lt e = absurd (omega (arith, lt))
room-false (true ∷ cs) zero lt e = absurd (true≢false e)
room-false (false ∷ cs) zero lt e = omega (arith, few cs)
room-false (true ∷ cs) (suc k) lt e = omega (arith, room-false cs k (omega (arith, lt)) e)
room-false (false ∷ cs) (suc k) lt e = omega (arith, room-false cs k (omega (arith, lt)) e)

-- of the first flags not more hold, and not more do not hold, than of all
pub counted : (cs : List Bool) (k : ℕ) → count_of (take k cs) ≤ count_of cs
counted [] zero = omega arith
counted [] (suc k) = omega arith
counted (c ∷ cs) zero = omega arith
counted (true ∷ cs) (suc k) = omega (arith, counted cs k)
counted (false ∷ cs) (suc k) = counted cs k

rest : (cs : List Bool) (k : ℕ) → length (take k cs) + count_of cs ≤ length cs + count_of (take k cs)
rest [] zero = omega arith
rest [] (suc k) = omega arith
rest (c ∷ cs) zero = omega (arith, few (c ∷ cs))
rest (true ∷ cs) (suc k) = omega (arith, rest cs k)
rest (false ∷ cs) (suc k) = omega (arith, rest cs k)

-- one that is put behind those put together so far
merged-true : {A : Type 0} (cs : List Bool) (xs ys : List A) (x : A) → count_of cs < length xs → length cs ≤ count_of cs + length ys → x ≡ get_or xs (count_of cs) x
    → merged (cs ++ true ∷ []) xs ys ≡ merged cs xs ys ++ x ∷ []
merged-true [] [] ys x lt le e = absurd (omega (arith, lt))
merged-true [] (y ∷ xs) ys x lt le e = ap (λ v. v ∷ []) (sym e)
merged-true (true ∷ cs) [] ys x lt le e = absurd (omega (arith, lt))
merged-true (true ∷ cs) (y ∷ xs) ys x lt le e = ap (λ l. y ∷ l) (merged-true cs xs ys x (omega (arith, lt)) (omega (arith, le)) e)
merged-true (false ∷ cs) xs [] x lt le e = absurd (omega (arith, few cs, le))
merged-true (false ∷ cs) xs (y ∷ ys) x lt le e = ap (λ l. y ∷ l) (merged-true cs xs ys x lt (omega (arith, le)) e)

merged-false : {A : Type 0} (cs : List Bool) (xs ys : List A) (k : ℕ) (y : A) → count_of cs ≤ length xs → k + count_of cs ≡ length cs → k < length ys → y ≡ get_or ys k y
    → merged (cs ++ false ∷ []) xs ys ≡ merged cs xs ys ++ y ∷ []
merged-false [] xs [] k y le at lt e = absurd (omega (arith, lt))
merged-false [] xs (z ∷ ys) zero y le at lt e = ap (λ v. v ∷ []) (sym e)
merged-false [] xs (z ∷ ys) (suc k) y le at lt e = absurd (omega (arith, at))
merged-false (true ∷ cs) [] ys k y le at lt e = absurd (omega (arith, le))
merged-false (true ∷ cs) (x ∷ xs) ys k y le at lt e = ap (λ l. x ∷ l) (merged-false cs xs ys k y (omega (arith, le)) (omega (arith, at)) lt e)
merged-false (false ∷ cs) xs ys zero y le at lt e = absurd (omega (arith, few cs, at))
merged-false (false ∷ cs) xs [] (suc k) y le at lt e = absurd (omega (arith, lt))
merged-false (false ∷ cs) xs (z ∷ ys) (suc k) y le at lt e = ap (λ l. z ∷ l) (merged-false cs xs ys k y le (omega (arith, at)) (omega (arith, lt)) e)

-- one flag more
pub merge-true : {A : Type 0} (cs : List Bool) (xs ys : List A) (k taken : ℕ) (x : A)
    → k < length cs → get_or cs k false ≡ true → length xs ≡ count_of cs → length xs + length ys ≡ length cs
    → taken ≡ count_of (take k cs) → x ≡ get_or xs taken x
    → merged (take (k + 1) cs) xs ys ≡ merged (take k cs) xs ys ++ x ∷ []
merge-true cs xs ys k taken x lt is some rows at e =
    ap (λ l. merged l xs ys) (take_more cs k false lt ∙ ap (λ c. take k cs ++ c ∷ []) is)
    ∙ merged-true (take k cs) xs ys x (omega (arith, room-true cs k lt is, some))
    (omega (arith, length-take k cs, room-true cs k lt is, some, rows, lt, rest cs k))
    (e ∙ ap (λ n. get_or xs n x) at)

pub merge-false : {A : Type 0} (cs : List Bool) (xs ys : List A) (k taken : ℕ) (y : A)
    → k < length cs → get_or cs k false ≡ false → length xs ≡ count_of cs → length xs + length ys ≡ length cs
    → taken ≡ count_of (take k cs) → y ≡ get_or ys (k - taken) y
    → merged (take (k + 1) cs) xs ys ≡ merged (take k cs) xs ys ++ y ∷ []
merge-false cs xs ys k taken y lt is some rows at e =
    ap (λ l. merged l xs ys) (take_more cs k false lt ∙ ap (λ c. take k cs ++ c ∷ []) is)
    ∙ merged-false (take k cs) xs ys (k - taken) y (omega (arith, counted cs k, some))
    (omega (arith, at, length-take k cs, few (take k cs), lt))
    (omega (arith, at, room-false cs k lt is, some, rows, few (take k cs), length-take k cs, lt))
    e

-- the values of what is put together
pub merged_values : {A B : Type 0} (f : A → B) (cs : List Bool) (xs ys : List A) → map f (merged cs xs ys) ≡ merged cs (map f xs) (map f ys)
merged_values f [] xs ys = refl
merged_values f (true ∷ cs) [] ys = refl
merged_values f (true ∷ cs) (x ∷ xs) ys = ap (λ l. f x ∷ l) (merged_values f cs xs ys)
merged_values f (false ∷ cs) xs [] = refl
merged_values f (false ∷ cs) xs (y ∷ ys) = ap (λ l. f y ∷ l) (merged_values f cs xs ys)

-- numbers one after another, and one more
range-suc : (a n j : ℕ) → a + n ≡ j → range_with_len a (suc n) ≡ range_with_len a n ++ j ∷ []
range-suc a zero j e = ap (λ k. k ∷ []) (omega (arith, e))
range-suc a (suc n) j e = ap (λ l. a ∷ l) (range-suc (a + 1) n j (omega (arith, e)))

pub range-more : (n : ℕ) → range_with_len 0 (n + 1) ≡ range_with_len 0 n ++ n ∷ []
range-more n = let on : n + 1 ≡ suc n = omega arith in ap (range_with_len 0) on ∙ range-suc 0 n n (omega arith)
