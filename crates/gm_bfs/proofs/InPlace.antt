-- Lists whose items are changed where they stand, one after another.
use Rattle.std.proofs.Common.{◌≡◌, ℕ, zero, suc, ◌+◌, ◌<◌, ◌≤◌, ◌≢◌, length-set, get_or-set_other, List, [], ◌∷◌, ◌++◌, map, length, take, drop, get_or, refl, ap, sym, subst, ◌∙◌, append-nil, arith}
use Rattle.std.proofs.Math.ListN.{set}

-- what all items become is what the first became, before what the others will become
pub record IsDone {X Y : Type 0} (s : X → Y) (f : Y → Y) (old : List X) (i : ℕ) (now : List X) : Type 0 where
  so_far : map f (map s old) ≡ map s (take i now) ++ map f (map s (drop i now))

-- the items from an index on are as they were
abbrev pub IsLeft : {X : Type 0} → List X → ℕ → List X → Type 0
IsLeft {X} old i now = (length now ≡ length old) × ((k : ℕ) (d : X) → i ≤ k → get_or now k d ≡ get_or old k d)

pub done-none : {X Y : Type 0} (s : X → Y) (f : Y → Y) (xs : List X) → IsDone s f xs 0 xs
done-none s f xs = record { so_far = refl }

one-more : {X Y : Type 0} (s : X → Y) (f : Y → Y) (i : ℕ) (now : List X) (y d : X) → i < length now → s y ≡ f (s (get_or now i d))
    → map s (take i now) ++ map f (map s (drop i now)) ≡ map s (take (suc i) (set now i y)) ++ map f (map s (drop (suc i) (set now i y)))
one-more s f i [] y d h e = absurd (omega (arith, h))
one-more s f zero (x ∷ xs) y d h e = ap (λ z. z ∷ map f (map s xs)) (sym e)
one-more s f (suc i) (x ∷ xs) y d h e = ap (λ l. s x ∷ l) (one-more s f i xs y d (omega (arith, h)) e)

pub done-next : {X Y : Type 0} (s : X → Y) (f : Y → Y) (old : List X) (i : ℕ) (now : List X) (y d : X) → i < length now → s y ≡ f (s (get_or now i d))
    → IsDone s f old i now → IsDone s f old (i + 1) (set now i y)
done-next s f old i now y d h e at =
    let next : suc i ≡ i + 1 = omega arith in
    subst (λ (j : ℕ). IsDone s f old j (set now i y)) next (record {
      so_far = at.so_far ∙ one-more s f i now y d h e;
    })

pub left-none : {X : Type 0} (xs : List X) → IsLeft xs 0 xs
left-none xs = (refl, λ k d h. refl)

pub left-next : {X : Type 0} (old : List X) (i : ℕ) (now : List X) (y : X) → IsLeft old i now → IsLeft old (i + 1) (set now i y)
left-next old i now y at = (length-set now i y ∙ at.0, λ k d h. let other : k ≢ i = omega arith in rw get_or-set_other (at.1 k d (omega arith)))

all-there : {X : Type 0} (i : ℕ) (xs : List X) → length xs ≤ i → take i xs ≡ xs
all-there zero [] h = refl
all-there (suc i) [] h = refl
all-there zero (x ∷ xs) h = absurd (omega (arith, h))
all-there (suc i) (x ∷ xs) h = ap (λ l. x ∷ l) (all-there i xs (omega (arith, h)))

none-left : {X : Type 0} (i : ℕ) (xs : List X) → length xs ≤ i → drop i xs ≡ []
none-left zero [] h = refl
none-left (suc i) [] h = refl
none-left zero (x ∷ xs) h = absurd (omega (arith, h))
none-left (suc i) (x ∷ xs) h = none-left i xs (omega (arith, h))

pub done-all : {X Y : Type 0} (s : X → Y) (f : Y → Y) (old : List X) (i : ℕ) (now : List X) → length now ≤ i → IsDone s f old i now → map s now ≡ map f (map s old)
done-all s f old i now h at =
    sym (at.so_far ∙ ap (λ xs. map s xs ++ map f (map s (drop i now))) (all-there i now h) ∙ ap (λ xs. map s now ++ map f (map s xs)) (none-left i now h) ∙ append-nil (map s now))

-- the items of a list that is written back over as many others
pub written-back : {X : Type 0} (n : ℕ) (xs ys : List X) → length xs ≡ n → take n (xs ++ ys) ≡ xs
written-back n [] ys h = rw (sym h) refl
written-back zero (x ∷ xs) ys h = absurd (omega (arith, h))
written-back (suc n) (x ∷ xs) ys h = ap (λ l. x ∷ l) (written-back n xs ys (omega (arith, h)))
