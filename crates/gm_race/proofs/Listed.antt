-- Sorted accesses are a listing.
use Rattle.std.proofs.Common.{◌≡◌, ℕ, ◌+◌, ◌<◌, nat_eq, nat_lt, Bool, true, false, List, [], ◌∷◌, map, filter, length, get_or, cond, refl, ap, sym, ◌∙◌, arith, is_lt, nat_cmp}
use Rattle.std.specs.Prelude.{◌&&◌, ◌||◌, not}
use Rattle.std.specs.declared.cmp.Ordering.{Ordering}
use Rattle.std.specs.Ordering.{ordering_then}
use Rattle.std.specs.List.Sorted.{IsPermutation, IsSortedBy, IsStableBy, ties}
use Rattle.std.proofs.lemmas.Bool.Decides.{nat_tests}
use Rattle.std.proofs.lemmas.List.{get_or-map, length-map}
use Rattle.std.proofs.lemmas.List.Elements.{All-map}
use Rattle.std.proofs.lemmas.List.Sorted.{IsPermutation-map}
use Rattle.gm_race.specs.declared.found.Found.{Found}
use Rattle.gm_race.specs.declared.listing.ListingKey.{ListingKey}
use Rattle.gm_race.specs.Views.{access_of}
use Rattle.gm_race.specs.Listing.{listed_before, key_of, IsListingOf}

-- the order of keys
abbrev pub key_cmp : ListingKey → ListingKey → Ordering
key_cmp a b = ordering_then (ordering_then (nat_cmp a.place.line b.place.line) (nat_cmp a.place.col b.place.col)) (nat_cmp a.rank b.rank)

-- whether an access has a lesser key than another
abbrev pub key_lt : Found → Found → Bool
key_lt a b = is_lt (key_cmp (key_of a) (key_of b))

by-numbers : (a b c d e f : ℕ) → is_lt (ordering_then (ordering_then (nat_cmp a b) (nat_cmp c d)) (nat_cmp e f)) ≡ ((nat_lt a b || (nat_eq a b && nat_lt c d)) || ((nat_eq a b && nat_eq c d) && nat_lt e f))
by-numbers a b c d e f = grind (arith, nat_tests)

-- the order of keys is that of the listing
key-agrees : (a b : Found) → key_lt a b ≡ listed_before (access_of a) (access_of b)
key-agrees a b = by-numbers a.place.line b.place.line a.place.col b.place.col (key_of a).rank (key_of b).rank

-- a sorted list, seen item by item
sorted-map : {X Y : Type 0} (f : X → Y) (p : X → X → Bool) (q : Y → Y → Bool) → ((a b : X) → p a b ≡ q (f a) (f b)) → (xs : List X) → IsSortedBy p xs → IsSortedBy q (map f xs)
sorted-map f p q same [] h = λ k d low lt. absurd (omega arith)
sorted-map f p q same (x ∷ xs) h = λ k d low lt.
    let n : length (map f (x ∷ xs)) ≡ length (x ∷ xs) = length-map (x ∷ xs) f in
    let second : k + 1 < length (x ∷ xs) = omega arith in
    let first : k < length (x ∷ xs) = omega arith in
    ap (λ y. q y (get_or (map f (x ∷ xs)) k d)) (get_or-map f (x ∷ xs) (k + 1) x d second) ∙ ap (λ y. q (f (get_or (x ∷ xs) (k + 1) x)) y) (get_or-map f (x ∷ xs) k x d first)
    ∙ sym (same (get_or (x ∷ xs) (k + 1) x) (get_or (x ∷ xs) k x)) ∙ h k x low second

-- what passes a test, seen item by item
filter-map : {X Y : Type 0} (f : X → Y) (p : X → Bool) (q : Y → Bool) → ((a : X) → p a ≡ q (f a)) → (xs : List X) → filter q (map f xs) ≡ map f (filter p xs)
filter-map f p q same [] = refl
filter-map f p q same (x ∷ xs) = ap (λ b. cond b (f x ∷ filter q (map f xs)) (filter q (map f xs))) (sym (same x)) ∙ by (p x) (filter-map f p q same xs)
  where
    by : (b : Bool) → filter q (map f xs) ≡ map f (filter p xs) → cond b (f x ∷ filter q (map f xs)) (filter q (map f xs)) ≡ map f (cond b (x ∷ filter p xs) (filter p xs))
    by true h = ap (λ ys. f x ∷ ys) h
    by false h = h

-- ties by the keys are ties of the listing
ties-agree : (a b : Found) → ties key_lt a b ≡ ties listed_before (access_of a) (access_of b)
ties-agree a b = ap (λ t. not t && not (key_lt b a)) (key-agrees a b) ∙ ap (λ t. not (listed_before (access_of a) (access_of b)) && not t) (key-agrees b a)

-- accesses sorted by their keys
pub listing-sorted : (xs ys : List Found) → IsPermutation xs ys → IsSortedBy key_lt ys → IsStableBy key_lt xs ys → IsListingOf (map access_of xs) (map access_of ys)
listing-sorted xs ys p s t = record {
  same = IsPermutation-map access_of xs ys p;
  ordered = sorted-map access_of key_lt listed_before key-agrees ys s;
  stable = All-map (λ a. filter (ties listed_before a) (map access_of ys) ≡ filter (ties listed_before a) (map access_of xs)) access_of xs
      (λ k d lt. let x = get_or xs k d in
      filter-map access_of (ties key_lt x) (ties listed_before (access_of x)) (ties-agree x) ys ∙ ap (map access_of) (t x)
      ∙ sym (filter-map access_of (ties key_lt x) (ties listed_before (access_of x)) (ties-agree x) xs));
}
