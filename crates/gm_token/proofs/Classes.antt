-- Which tokens have the word of a number.
use Rattle.std.proofs.Common.{◌≡◌, ℕ, ◌<◌, Bool, true, false, List, [], ◌∷◌, ◌++◌, length, get_or, refl, sym, ap, ◌∙◌, arith}
use Rattle.std.specs.Prelude.{unwrap_or, Some, bytes_eq, if◌then◌else◌}
use Rattle.std.specs.List.{AllPass, list_all}
use Rattle.std.proofs.lemmas.Bool.{false≢true}
use Rattle.std.proofs.lemmas.List.{length-append}
use Rattle.std.proofs.Math.Seq.{get_or-append_seam}
use Rattle.std.proofs.lemmas.List.Elements.{All-get_or, All-contains, All-head, All-tail}
use Rattle.std.proofs.lemmas.List.Sums.{AllPass-from_list_all}
use Rattle.gm_token.specs.declared.words.Word.{Word}
use Rattle.gm_token.specs.declared.words.Word.TheVariants.{Name, Number, Real}
use Rattle.gm_token.specs.Bytes.{is_digit}
use Rattle.gm_token.specs.Words.{names, symbols, word_in}
use Rattle.gm_token.specs.Spellings.{IsName, IsNumber, IsToken}
use Rattle.gm_token.proofs.Symbols.{symbol_other}
use Rattle.gm_token.proofs.Longest.{name_no_digit, number_bytes, digits_go_on}

-- any word but that of a number
is_no_number : Word → Bool
is_no_number Number = false
is_no_number _ = true

names_no_number : list_all (λ row. is_no_number row.1) names ≡ true
unfolding is_no_number names
names_no_number = refl

symbols_no_number : list_all (λ row. is_no_number row.1) symbols ≡ true
unfolding is_no_number symbols
symbols_no_number = refl

in_table : (rows : List (List ℕ × Word)) → AllPass (λ row. is_no_number row.1) rows → (s : List ℕ) → is_no_number (unwrap_or (word_in rows s) Name) ≡ true
unfolding is_no_number
in_table [] all s = refl
in_table (row ∷ rows) all s = by_test (bytes_eq row.0 s) (All-head (λ r. is_no_number r.1 ≡ true) row rows all) (in_table rows (All-tail (λ r. is_no_number r.1 ≡ true) row rows all) s)
  where
    by_test : (b : Bool) → is_no_number row.1 ≡ true → is_no_number (unwrap_or (word_in rows s) Name) ≡ true → is_no_number (unwrap_or (if b then Some row.1 else word_in rows s) Name) ≡ true
    by_test true h k = h
    by_test false h k = k

no_number : (w : Word) → is_no_number w ≡ true → w ≡ Number → ⊥
unfolding is_no_number
no_number w h e = false≢true (ap is_no_number (sym e) ∙ h)

-- a token with the word of a number has digits alone
pub digits_of_number : {w : Word} {bs rest : List ℕ} → IsToken w bs rest → w ≡ Number → IsNumber bs
digits_of_number {w} {bs} (IsToken.name n e) is = absurd (no_number w (ap is_no_number e ∙ in_table names (AllPass-from_list_all (λ row. is_no_number row.1) names names_no_number) bs) is)
digits_of_number (IsToken.number n e) is = n
digits_of_number (IsToken.real r e) is = absurd (let same : Real ≡ Number = sym e ∙ is in cc)
digits_of_number {w} {bs} (IsToken.symbol c p) is = absurd (no_number w (All-contains (λ row. is_no_number row.1 ≡ true) symbols (bs, w) (AllPass-from_list_all (λ row. is_no_number row.1) symbols symbols_no_number) c) is)

pub no_name_number : (bs : List ℕ) → IsName bs → IsNumber bs → ⊥
no_name_number [] n d = n
no_name_number (b ∷ bs) n d = name_no_digit b n.0 (All-head (λ x. is_digit x ≡ true) b bs d)

pub no_real_number : (bs whole part : List ℕ) → bs ≡ whole ++ 46 ∷ part → AllPass is_digit bs → ⊥
no_real_number bs whole part e all =
    let size = ap (λ (x : List ℕ). length x) e ∙ length-append whole (46 ∷ part) in
    let dot : get_or bs (length whole) 0 ≡ 46 = ap (λ (x : List ℕ). get_or x (length whole) 0) e ∙ get_or-append_seam whole 46 part 0 in
    let in_bs : length whole < length bs = omega arith in
    false≢true (sym (ap is_digit dot) ∙ All-get_or (λ x. is_digit x ≡ true) bs (length whole) 0 in_bs all)

-- a token of digits alone has the word of a number
pub number_of_digits : {w : Word} {bs rest : List ℕ} → IsToken w bs rest → IsNumber bs → w ≡ Number
number_of_digits {w} {bs} (IsToken.name n e) d = absurd (no_name_number bs n d)
number_of_digits (IsToken.number n e) d = e
number_of_digits {w} {bs} (IsToken.real r e) d = absurd (no_real_number bs r.0 r.1.0 r.1.3 (number_bytes bs d))
number_of_digits {w} {bs} (IsToken.symbol c p) d = absurd (symbol_other bs w c (digits_go_on bs (number_bytes bs d)))
