-- What numbers spell.
use Rattle.std.proofs.Common.{◌≡◌, ◌≤◌, ◌<◌, ◌∙◌, ap, sym, refl, ℕ, ℤ, pos, zero, suc, Bool, true, false, [], ◌∷◌, length, drop, take, get_or, Some, None, Result, Ok, Err, codes, arith, leb-true}
use Rattle.std.specs.Int.{w64}
use Rattle.std.proofs.lemmas.Bool.Decides.{nat_tests}
use Rattle.std.specs.Prelude.{nat_le, neg_ℤ}
use Rattle.std.specs.Result.{result_ok}
use Rattle.std.specs.List.{list_all}
use Rattle.std.specs.Char.{is_ascii_digit}
use Rattle.std.specs.Result.{OkIff}
use Rattle.std.specs.Str.{all_ascii_digits}
use Rattle.std.specs.Str.Parse.{ParsesSigned, ParsesUnsigned, digits_value}
use Rattle.std.proofs.lemmas.Slice.Eq.{bytes_eq-Decides}
use Rattle.std.proofs.lemmas.Str.Parse.{numerals_by_value, parse_digits, parse_signed_digits, parse_signed_minus, tells_all_ascii_digits}
use Rattle.gm_value.specs.Numbers.{fits}
use Rattle.gm_value.specs.declared.values.VType.TheVariants as type
use Rattle.gm_words.specs.Arguments.{digits_number, in_range, is_digits, is_negative, node_number, whole_in, without_sign}
use Rattle.gm_words.specs.Words.{Text}
use Rattle.gm_words.proofs.Numbers.{all_is, both_true}

too_much : (n most : ℕ) → (n ≤ most → ⊥) → nat_le n most ≡ false
too_much n most over = go (nat_le n most) refl
  where
    go : (b : Bool) → nat_le n most ≡ b → nat_le n most ≡ false
    go true e = absurd (over (leb-true n most e))
    go false e = e

-- a number of a node that has no 64 bits is too large
pub node_too_large : {E : Type 0} (text : Text) (r : Result ℕ E) (e : E) → ParsesUnsigned 64 10 text r → is_digits text ≡ true → r ≡ Err e → node_number text ≡ None
node_too_large text r e parses digits is =
    let parts = both_true (nat_le 1 (length text)) (list_all is_ascii_digit text) digits in
    let some : 0 < length text = leb-true 1 (length text) parts.0 in
    let all = all_is text ∙ parts.1 in
    let none = rw is at (parse_digits (numerals_by_value _ tells_all_ascii_digits) 64 text r parses all) in
    let over = too_much (digits_value 10 text) 9223372036854775807 (λ few. none (some, omega arith)) in
    rw digits (rw over refl)

pub node_is : {E : Type 0} (text : Text) (r : Result ℕ E) (n : ℕ) → ParsesUnsigned 64 10 text r → is_digits text ≡ true → r ≡ Ok n → digits_number text ≡ Some n
node_is text r n parses digits is =
    let parts = both_true (nat_le 1 (length text)) (list_all is_ascii_digit text) digits in
    let all = all_is text ∙ parts.1 in
    let got = rw is at (parse_digits (numerals_by_value _ tells_all_ascii_digits) 64 text r parses all) in
    rw digits (ap Some (sym got.1))

-- the numbers of 64 bits with their sign
small_minus : (n : ℕ) → n ≤ 9223372036854775808 → fits type.I64 (neg_ℤ (pos n)) ≡ true
small_minus zero h = refl
small_minus (suc k) h = grind (arith, nat_tests)

large_minus : (n : ℕ) → (n ≤ 9223372036854775808 → ⊥) → fits type.I64 (neg_ℤ (pos n)) ≡ false
large_minus zero h = absurd (h (omega arith))
large_minus (suc k) h = let over = too_much k 9223372036854775807 (λ few. h (omega arith)) in rw over refl

minus_is : {E : Type 0} (P : Type 0) (r : Result ℤ E) (n : ℕ) (len : ℕ) → OkIff r (P × (0 < len) × (n ≤ 9223372036854775808)) (neg_ℤ (pos n)) → P → 0 < len → result_ok r ≡ in_range type.I64 (neg_ℤ (pos n))
minus_is P (Ok z) n len h p some = rw (small_minus n h.0.2) (ap Some h.1)
minus_is P (Err e) n len h p some = rw (large_minus n (λ few. h (p, some, few))) refl

plus_is : {E : Type 0} (r : Result ℤ E) (n : ℕ) (len : ℕ) → OkIff r ((0 < len) × (n < 9223372036854775808)) (pos n) → 0 < len → result_ok r ≡ in_range type.I64 (pos n)
plus_is (Ok z) n len h some = let few : nat_le n 9223372036854775807 ≡ true = grind (arith, nat_tests, h.0.1) in rw few (ap Some h.1)
plus_is (Err e) n len h some = let over = too_much n 9223372036854775807 (λ few. h (some, omega arith)) in rw over refl

first_byte : (text : Text) → take 1 text ≡ codes "-" → get_or text 0 0 ≡ 45
first_byte [] e = cc
first_byte (b ∷ rest) e = ap (λ (l : Text). get_or l 0 0) e

pub whole_is : {E : Type 0} (text : Text) (r : Result ℤ E) → ParsesSigned w64 10 text r → is_digits (without_sign text) ≡ true → result_ok r ≡ whole_in type.I64 text
whole_is text r parses digits = go (is_negative text) refl
  where
    go : (b : Bool) → is_negative text ≡ b → result_ok r ≡ whole_in type.I64 text
    go true e =
        let d : is_digits (drop 1 text) ≡ true = rw e at digits in
        let parts = both_true (nat_le 1 (length (drop 1 text))) (list_all is_ascii_digit (drop 1 text)) d in
        let some : 0 < length (drop 1 text) = leb-true 1 (length (drop 1 text)) parts.0 in
        let all = all_is (drop 1 text) ∙ parts.1 in
        let head = first_byte text ((bytes_eq-Decides (take 1 text) (codes "-")).0 e) in
        let got = parse_signed_minus (numerals_by_value _ tells_all_ascii_digits) w64 text r parses head in
        rw (e, d) (minus_is (all_ascii_digits (drop 1 text) ≡ true) r (digits_value 10 (drop 1 text)) (length (drop 1 text)) got all some)
    go false e =
        let d : is_digits text ≡ true = rw e at digits in
        let parts = both_true (nat_le 1 (length text)) (list_all is_ascii_digit text) d in
        let some : 0 < length text = leb-true 1 (length text) parts.0 in
        let all = all_is text ∙ parts.1 in
        let got = parse_signed_digits (numerals_by_value _ tells_all_ascii_digits) w64 text r parses all in
        rw (e, d) (plus_is r (digits_value 10 text) (length text) got some)
