-- Lists of which a part is exchanged.
use Rattle.std.proofs.Common.{◌≡◌, ◌∙◌, ◌<◌, ◌≤◌, ◌-◌, ◌+◌, ℕ, zero, suc, List, [], ◌∷◌, ◌++◌, refl, ap, sym, map, length, take, drop, get_or, set, arith, append_assoc, length-append, length-drop}
use Rattle.std.proofs.lemmas.List.{map-append, length-map, take_all, take_more, drop_more, take-map, length-take-le, set-append_right, get_or_append_left, get_or-append_right, get_or-take, get_or-drop}
use Rattle.gm_batch_steps.specs.Parts.{with_part, with_parts}

drop-map : {A B : Type 0} (f : A → B) (n : ℕ) (xs : List A) → map f (drop n xs) ≡ drop n (map f xs)
drop-map f zero xs = refl
drop-map f (suc n) [] = refl
drop-map f (suc n) (x ∷ xs) = drop-map f n xs

-- a part, and what it is exchanged in, after a function
pub part-map : {A B : Type 0} (f : A → B) (from : ℕ) (xs ys : List A) → map f (with_part from xs ys) ≡ with_part from (map f xs) (map f ys)
part-map f from xs ys =
    map-append f (take from xs) (ys ++ drop (from + length ys) xs)
    ∙ (λ i. sym (take-map f from xs) i ++ map-append f ys (drop (from + length ys) xs) i)
    ∙ ap (λ l. take from (map f xs) ++ (map f ys ++ l)) (drop-map f (from + length ys) xs ∙ ap (λ n. drop (from + n) (map f xs)) (sym (length-map ys f)))

set-front : {A : Type 0} (xs : List A) (place j : ℕ) (y : A) → place < length xs → j ≡ 0 → set (drop place xs) j y ≡ y ∷ drop (place + 1) xs
set-front xs place j y lt e = ap (λ k. set (drop place xs) k y) e ∙ ap (λ l. set l 0 y) (drop_more xs place y lt)

-- one more value of a part
pub part-more : {A : Type 0} (xs ys : List A) (from to place : ℕ) (y : A) → from ≤ place → place < to → from + length ys ≡ to → to ≤ length xs → y ≡ get_or ys (place - from) y
    → set (with_part from xs (take (place - from) ys)) place y ≡ with_part from xs (take (place + 1 - from) ys)
part-more xs ys from to place y low high part within is =
    let k : ℕ = place - from in
    let front : length (take from xs) ≡ from = length-take-le from xs (omega (arith, part, within)) in
    let some : length (take k ys) ≡ k = length-take-le k ys (omega (arith, low, high, part)) in
    let more : length (take (k + 1) ys) ≡ k + 1 = length-take-le (k + 1) ys (omega (arith, low, high, part)) in
    let next : take (k + 1) ys ≡ take k ys ++ y ∷ [] = take_more ys k y (omega (arith, low, high, part)) ∙ ap (λ v. take k ys ++ v ∷ []) (sym is) in
    let here : from + length (take k ys) ≡ place = omega (arith, some, low) in
    let behind : place + 1 ≡ from + length (take (k + 1) ys) = omega (arith, more, low) in
    set-append_right (take from xs) (take k ys ++ drop (from + length (take k ys)) xs) from place y front low
    ∙ ap (λ l. take from xs ++ l) (
    set-append_right (take k ys) (drop (from + length (take k ys)) xs) k (place - from) y some (omega arith)
    ∙ ap (λ l. take k ys ++ l) (ap (λ n. set (drop n xs) (place - from - k) y) here ∙ set-front xs place (place - from - k) y (omega (arith, high, within)) (omega arith))
    ∙ sym (append_assoc (take k ys) (y ∷ []) (drop (place + 1) xs))
    ∙ (λ i. sym next i ++ drop (behind i) xs))
    ∙ ap (λ n. with_part from xs (take n ys)) (omega (arith, low))

pub part-all : {A : Type 0} (xs ys : List A) (from to : ℕ) → from + length ys ≡ to → with_part from xs (take (to - from) ys) ≡ with_part from xs ys
part-all xs ys from to part = ap (with_part from xs) (take_all (to - from) ys (omega (arith, part)))

pub length-part : {A : Type 0} (xs ys : List A) (from : ℕ) → from + length ys ≤ length xs → length (with_part from xs ys) ≡ length xs
length-part xs ys from le =
    omega (
      arith,
      le,
      length-append (take from xs) (ys ++ drop (from + length ys) xs),
      length-append ys (drop (from + length ys) xs),
      length-take-le from xs (omega (arith, le)),
      length-drop (from + length ys) xs,
    )

-- what stands in a part, and what outside
pub part-inside : {A : Type 0} (xs ys : List A) (from row : ℕ) (d : A) → from + length ys ≤ length xs → row < length ys → get_or (with_part from xs ys) (from + row) d ≡ get_or ys row d
part-inside xs ys from row d le lt =
    get_or-append_right (take from xs) (ys ++ drop (from + length ys) xs) from (from + row) d (length-take-le from xs (omega (arith, le))) (omega arith)
    ∙ ap (λ k. get_or (ys ++ drop (from + length ys) xs) k d) (omega arith)
    ∙ get_or_append_left ys (drop (from + length ys) xs) d row lt

pub part-before : {A : Type 0} (xs ys : List A) (from place : ℕ) (d : A) → from + length ys ≤ length xs → place < from → get_or (with_part from xs ys) place d ≡ get_or xs place d
part-before xs ys from place d le lt =
    get_or_append_left (take from xs) (ys ++ drop (from + length ys) xs) d place (omega (arith, lt, length-take-le from xs (omega (arith, le))))
    ∙ get_or-take from xs place d lt

pub part-behind : {A : Type 0} (xs ys : List A) (from place : ℕ) (d : A) → from + length ys ≤ length xs → from + length ys ≤ place → get_or (with_part from xs ys) place d ≡ get_or xs place d
part-behind xs ys from place d le ge =
    get_or-append_right (take from xs) (ys ++ drop (from + length ys) xs) from place d (length-take-le from xs (omega (arith, le))) (omega (arith, ge))
    ∙ get_or-append_right ys (drop (from + length ys) xs) (length ys) (place - from) d refl (omega (arith, ge))
    ∙ get_or-drop (from + length ys) xs (place - from - length ys) d
    ∙ ap (λ k. get_or xs k d) (omega (arith, ge))

-- the parts of several lists, one after another
parts-none : {A : Type 0} (from : ℕ) (columns : List (List A)) → with_parts from columns [] ≡ columns
parts-none from [] = refl
parts-none from (xs ∷ columns) = refl

parts-step : {A : Type 0} (from : ℕ) (columns parts : List (List A)) (k : ℕ) → k < length parts → length parts ≡ length columns
    → set (with_parts from columns (take k parts)) k (with_part from (get_or columns k []) (get_or parts k [])) ≡ with_parts from columns (take (suc k) parts)
parts-step from columns [] k lt long = absurd (omega (arith, lt))
parts-step from [] (ys ∷ parts) k lt long = absurd (omega (arith, long))
parts-step from (xs ∷ columns) (ys ∷ parts) zero lt long = ap (λ l. with_part from xs ys ∷ l) (sym (parts-none from columns))
parts-step from (xs ∷ columns) (ys ∷ parts) (suc k) lt long = ap (λ l. with_part from xs ys ∷ l) (parts-step from columns parts k (omega (arith, lt)) (omega (arith, long)))

-- what is not yet exchanged
pub parts-here : {A : Type 0} (from : ℕ) (columns parts : List (List A)) (k : ℕ) (d : List A) → get_or (with_parts from columns (take k parts)) k d ≡ get_or columns k d
parts-here from columns parts zero d = ap (λ l. get_or l 0 d) (parts-none from columns)
parts-here from columns [] (suc k) d = ap (λ l. get_or l (suc k) d) (parts-none from columns)
parts-here from [] (ys ∷ parts) (suc k) d = refl
parts-here from (xs ∷ columns) (ys ∷ parts) (suc k) d = parts-here from columns parts k d

pub parts-more : {A : Type 0} (from : ℕ) (columns now parts : List (List A)) (k : ℕ) (ys new : List A) → k < length parts → length parts ≡ length columns
    → now ≡ with_parts from columns (take k parts) → ys ≡ get_or parts k [] → new ≡ with_part from (get_or now k []) ys
    → set now k new ≡ with_parts from columns (take (k + 1) parts)
parts-more from columns now parts k ys new lt long is part exchanged =
    (λ i. set (is i) k ((exchanged ∙ (λ j. with_part from ((ap (λ l. get_or l k []) is ∙ parts-here from columns parts k []) j) (part j))) i))
    ∙ parts-step from columns parts k lt long
    ∙ ap (λ n. with_parts from columns (take n parts)) next
  where
    next : suc k ≡ k + 1
    next = omega arith

pub parts-start : {A : Type 0} (from : ℕ) (columns : List (List A)) → columns ≡ with_parts from columns []
parts-start from columns = sym (parts-none from columns)

pub length-parts : {A : Type 0} (from : ℕ) (columns parts : List (List A)) → length (with_parts from columns parts) ≡ length columns
length-parts from [] parts = refl
length-parts from (xs ∷ columns) [] = refl
length-parts from (xs ∷ columns) (ys ∷ parts) = ap suc (length-parts from columns parts)
