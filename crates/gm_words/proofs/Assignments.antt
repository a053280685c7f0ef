-- Where the name of a word NAME=VALUE ends.
use Rattle.std.proofs.Common.{◌≡◌, ◌<◌, ◌+◌, ◌∙◌, ◌==◌, ap, sym, refl, ℕ, Bool, true, false, zero, suc, get_or, [], ◌∷◌, length, drop, Option, Some, None, arith}
use Rattle.std.specs.Prelude.{position, slice_get, nat_lt, unwrap_or}
use Rattle.std.specs.List.{list_any, position_or_len}
use Rattle.std.proofs.lemmas.Bool.{eqb-true}
use Rattle.std.proofs.lemmas.Bool.Decides.{nat_tests}
use Rattle.gm_words.specs.Words.{Text, is_equals}

-- the first `=` stands at this index
pub record IsEqualsAt (xs : Text) (k : ℕ) : Type 0 where
  pub within : k < length xs
  pub equals : slice_get xs k ≡ Some 61

at_first : (xs : Text) → list_any is_equals xs ≡ true → IsEqualsAt xs (position_or_len is_equals xs)
at_first [] h = cc
at_first (x ∷ xs) h = go (x == 61) refl (at_first xs)
  where
    go : (b : Bool) → (x == 61) ≡ b → (list_any is_equals xs ≡ true → IsEqualsAt xs (position_or_len is_equals xs)) → IsEqualsAt (x ∷ xs) (position_or_len is_equals (x ∷ xs))
    go true e rec = rw e (record { within = omega arith; equals = ap Some (eqb-true x 61 e) })
    go false e rec =
        let later : list_any is_equals xs ≡ true = rw e at h in
        let end = rec later in
        let next : 1 + position_or_len is_equals xs ≡ suc (position_or_len is_equals xs) = omega arith in
        let lt : position_or_len is_equals xs < length xs = end.within in
        rw e (rw next (record { within = omega arith; equals = end.equals }))

-- so it is found
pub found_at : (xs : Text) → list_any is_equals xs ≡ true → (position is_equals xs ≡ Some (position_or_len is_equals xs)) × IsEqualsAt xs (position_or_len is_equals xs)
found_at xs h =
    let end = at_first xs h in
    let lt : position_or_len is_equals xs < length xs = end.within in
    let test : nat_lt (position_or_len is_equals xs) (length xs) ≡ true = grind (arith, nat_tests, lt) in
    (rw test refl, end)

-- the place in the whole word
pub past_first : (word : Text) (k : ℕ) → IsEqualsAt (drop 1 word) k → IsEqualsAt word (k + 1)
past_first [] k h = let bad : None ≡ Some 61 = h.equals in cc
past_first (b ∷ rest) k h =
    let next : k + 1 ≡ suc k = omega arith in
    let lt : k < length rest = h.within in
    rw next (record { within = omega arith; equals = h.equals })

pub index_is : (xs : Text) (k : ℕ) → list_any is_equals xs ≡ true → position is_equals xs ≡ Some k → k ≡ position_or_len is_equals xs
index_is xs k h is = ap (λ (o : Option ℕ). unwrap_or o k) (sym is ∙ (found_at xs h).0)

pub byte_within : (xs : Text) (k b : ℕ) → slice_get xs k ≡ Some b → k < length xs
byte_within [] k b h = cc
byte_within (x ∷ xs) zero b h = omega arith
byte_within (x ∷ xs) (suc k) b h = let lt = byte_within xs k b h in omega arith

pub at_byte : (xs : Text) (k b : ℕ) → slice_get xs k ≡ Some b → get_or xs k 0 ≡ b
at_byte [] k b h = cc
at_byte (x ∷ xs) zero b h = ap (λ (o : Option ℕ). unwrap_or o 0) h
at_byte (x ∷ xs) (suc k) b h = at_byte xs k b h
