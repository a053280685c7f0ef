-- The numbers and constants that words spell are read from their spellings and from nothing else.
use Rattle.std.proofs.Common.{◌≡◌, ◌<◌, ◌≤◌, ◌^◌, ℕ, zero, suc, Bool, true, false, cond, ◌&&◌, ◌||◌, eqb, ltb, leb, [], ◌∷◌, length, get_or, drop, refl, ap, sym, ◌∙◌, subst, arith, rules}
use Rattle.std.specs.Prelude.{Option, Some, None, option_map, fold, ℤ, pos, negsuc}
use Rattle.std.specs.List.{list_all, list_any}
use Rattle.std.specs.Fmt.{decimal, signed_decimal}
use Rattle.std.proofs.lemmas.Bool.Decides.{nat_tests}
use Rattle.std.proofs.lemmas.Str.Parse.{IsNumeralModel, numerals_by_fold}
use Rattle.std.proofs.lemmas.Fmt.{digits_decimal, digits_value-decimal, decimal-digits_value, decimal_nonempty, first_decimal, length-decimal-le}
use Rattle.gm_fields.specs.Fields.{is_digit, is_some_part, is_number, with_digit, decimal_value, number_in}
use Rattle.gm_image_text.specs.Lines.{Word}
use Rattle.gm_image.specs.Ranges.{IsIndex}
use Rattle.gm_image_text.specs.Fits.{IsPlain, ends_word}
use Rattle.gm_image_text.specs.Numbers.{has_leading_zero, whole_in, index_from, index_in, negative, signed_in}
use Rattle.gm_image_text.proofs.LineBinds.{some_is, map_some}
use Rattle.gm_image_text.proofs.Fields.{WordLaw}

abbrev value_from : ℕ → Word → ℕ
value_from n ds = fold with_digit n ds

-- these are std's numerals
own : IsNumeralModel (λ ds. list_all is_digit ds ≡ true) (value_from 0)
own = numerals_by_fold _ (search rules) value_from (search rules)

some_part : (ds : Word) → 0 < length ds → is_some_part ds ≡ true
some_part [] h = absurd (omega (arith, h))
some_part (d ∷ ds) h = refl

part_some : (ds : Word) → is_some_part ds ≡ true → 0 < length ds
part_some [] h = cc
part_some (d ∷ ds) h = omega arith

and_true : (a b : Bool) → a && b ≡ true → (a ≡ true) × (b ≡ true)
and_true true b e = (refl, e)
and_true false b e = cc

-- what a word without a leading zero is
no_zero : (w : Word) → has_leading_zero w ≡ false → get_or w 0 0 ≡ 48 → length w ≡ 1
no_zero [] h e = let bad : 0 ≡ 48 = e in absurd (omega (arith, bad))
no_zero (b ∷ []) h e = refl
no_zero (b ∷ c ∷ bs) h e = grind (arith, nat_tests, h, e)

zero_only : (w : Word) → (get_or w 0 0 ≡ 48 → length w ≡ 1) → has_leading_zero w ≡ false
zero_only [] h = refl
zero_only (b ∷ []) h = refl
zero_only (b ∷ c ∷ bs) h =
    elim (eqb b 48) as (λ v. eqb b 48 ≡ v → v ≡ false) [
      | true ↦ λ is. absurd (omega (arith, h (grind (arith, nat_tests, is))))
      | false ↦ λ is. refl
    ] refl

chosen : (b : Bool) (n m : ℕ) → cond b (Some n) None ≡ Some m → (b ≡ true) × (n ≡ m)
chosen true n m e = (refl, some_is n m e)
chosen false n m e = cc

refused : (b : Bool) (o : Option ℕ) (m : ℕ) → cond b None o ≡ Some m → (b ≡ false) × (o ≡ Some m)
refused true o m e = cc
refused false o m e = (refl, e)

-- the number that a word spells is spelled so
pub whole_ok : (w : Word) (n : ℕ) → whole_in w ≡ Some n → n < 2 ^ 64 → w ≡ decimal n
whole_ok w n e small =
    let first = refused (has_leading_zero w) (number_in w) n e in
    let second = chosen (is_number w) (decimal_value w) n first.1 in
    let both = and_true (is_some_part w) (list_all is_digit w) second.0 in
    let P : ℕ → Type 0 = λ v. v < 2 ^ 64 in
    let fits : value_from 0 w < 2 ^ 64 = subst P (sym second.1) small in
    sym (decimal-digits_value own w both.1 (part_some w both.0) (no_zero w first.0) fits) ∙ ap decimal second.1

-- what a number spells is read as the number
decimal_zero : (n : ℕ) → n < 2 ^ 64 → get_or (decimal n) 0 0 ≡ 48 → length (decimal n) ≡ 1
decimal_zero zero small e = one_digit where
  one_digit : length (decimal 0) ≡ 1
  one_digit =
      let most : length (decimal 0) ≤ 1 = length-decimal-le 1 0 (omega arith) (omega arith) (omega arith) in
      let least : 0 < length (decimal 0) = decimal_nonempty 0 (omega arith) in
      omega arith
decimal_zero (suc n) small e =
    let more : 48 < get_or (decimal (suc n)) 0 0 = first_decimal (suc n) (omega arith) small in
    absurd (omega (arith, e, more))

pub whole_again : (n : ℕ) → n < 2 ^ 64 → whole_in (decimal n) ≡ Some n
whole_again n small =
    let digits : list_all is_digit (decimal n) ≡ true = digits_decimal own n small in
    let some : is_some_part (decimal n) ≡ true = some_part (decimal n) (decimal_nonempty n small) in
    let value : value_from 0 (decimal n) ≡ n = digits_value-decimal own n small in
    let lead : has_leading_zero (decimal n) ≡ false = zero_only (decimal n) (decimal_zero n small) in
    ap (λ v. cond v None (number_in (decimal n))) lead ∙ ap (λ v. cond (v && list_all is_digit (decimal n)) (Some (decimal_value (decimal n))) None) some ∙ ap (λ v. cond v (Some (decimal_value (decimal n))) None) digits ∙ ap (λ v. Some v) value

-- digits are plain
digit_plain : (b : ℕ) → is_digit b ≡ true → ends_word b ≡ false
digit_plain b h =
    let both = and_true (leb 48 b) (leb b 57) h in
    let low : 48 ≤ b = grind (arith, nat_tests, both.0) in
    grind (arith, nat_tests)

digits_plain : (ds : Word) → list_all is_digit ds ≡ true → IsPlain ds
digits_plain [] h = refl
digits_plain (d ∷ ds) h =
    let both = and_true (is_digit d) (list_all is_digit ds) h in
    ap (λ v. v || list_any ends_word ds) (digit_plain d both.0) ∙ digits_plain ds both.1

pub decimal_plain : (n : ℕ) → n < 2 ^ 64 → IsPlain (decimal n)
decimal_plain n small = digits_plain (decimal n) (digits_decimal own n small)

index_chosen : (o : Option ℕ) (n : ℕ) → index_from o ≡ Some n → (o ≡ Some n) × (n < 4294967296)
index_chosen None n e = cc
index_chosen (Some m) n e =
    let it = chosen (ltb m 4294967296) m n e in
    (ap (λ v. Some v) it.1, grind (arith, nat_tests, it.0, it.1))

wide : (n : ℕ) → n < 4294967296 → n < 2 ^ 64
wide n h = omega (arith, h)

index_again : (n : ℕ) → n < 4294967296 → index_in (decimal n) ≡ Some n
index_again n h =
    let small : ltb n 4294967296 ≡ true = grind (arith, nat_tests, h) in
    ap index_from (whole_again n (wide n h)) ∙ ap (λ v. cond v (Some n) None) small

-- an index or a count
pub index_word : WordLaw IsIndex decimal index_in
index_word = record {
  ok = λ w n p e.
      let it = index_chosen (whole_in w) n e in
      (it.1, whole_ok w n it.0 (wide n it.1));
  again = λ n h. index_again n h;
  plain = λ n h. decimal_plain n (wide n h);
}

-- numbers with a sign, of 64 bits
abbrev pub IsNear : ℤ → Type 0
IsNear (pos n) = n < 2 ^ 64
IsNear (negsuc n) = suc n < 2 ^ 64

with_sign : (w : Word) → get_or w 0 0 ≡ 45 → w ≡ 45 ∷ drop 1 w
with_sign [] e = let bad : 0 ≡ 45 = e in absurd (omega (arith, bad))
with_sign (b ∷ bs) e = ap (λ v. v ∷ bs) e

negative_is : (o : Option ℕ) (z : ℤ) → negative o ≡ Some z → (n : ℕ) × (o ≡ Some (suc n)) × (negsuc n ≡ z)
negative_is None z e = cc
negative_is (Some zero) z e = cc
negative_is (Some (suc n)) z e = (n, refl, some_is (negsuc n) z e)

pub signed_ok : (w : Word) (z : ℤ) → signed_in w ≡ Some z → IsNear z → w ≡ signed_decimal z
signed_ok w z e near =
    elim (eqb (get_or w 0 0) 45) as (λ v. eqb (get_or w 0 0) 45 ≡ v → cond v (negative (whole_in (drop 1 w))) (option_map pos (whole_in w)) ≡ Some z → w ≡ signed_decimal z) [
      | true ↦ λ is h.
          let it = negative_is (whole_in (drop 1 w)) z h in
          let first : get_or w 0 0 ≡ 45 = grind (arith, nat_tests, is) in
          let P : ℤ → Type 0 = IsNear in
          let small : suc it.0 < 2 ^ 64 = subst P (sym it.2) near in
          with_sign w first ∙ ap (λ v. 45 ∷ v) (whole_ok (drop 1 w) (suc it.0) it.1 small) ∙ ap signed_decimal it.2
      | false ↦ λ is h.
          let it = map_some (whole_in w) pos z h in
          let P : ℤ → Type 0 = IsNear in
          let small : it.0 < 2 ^ 64 = subst P (sym it.2) near in
          whole_ok w it.0 it.1 small ∙ ap signed_decimal it.2
    ] refl e

first_digit : (ds : Word) → list_all is_digit ds ≡ true → eqb (get_or ds 0 0) 45 ≡ false
first_digit [] h = refl
first_digit (d ∷ ds) h =
    let both = and_true (is_digit d) (list_all is_digit ds) h in
    let range = and_true (leb 48 d) (leb d 57) both.0 in
    let low : 48 ≤ d = grind (arith, nat_tests, range.0) in
    grind (arith, nat_tests)

pub signed_again : (z : ℤ) → IsNear z → signed_in (signed_decimal z) ≡ Some z
signed_again (pos n) near =
    ap (λ v. cond v (negative (whole_in (drop 1 (decimal n)))) (option_map pos (whole_in (decimal n)))) (first_digit (decimal n) (digits_decimal own n near)) ∙ ap (option_map pos) (whole_again n near)
signed_again (negsuc n) near = ap negative (whole_again (suc n) near)

pub signed_plain : (z : ℤ) → IsNear z → IsPlain (signed_decimal z)
signed_plain (pos n) near = decimal_plain n near
signed_plain (negsuc n) near = decimal_plain (suc n) near
