-- Numbers as the tokens spell them.
use Rattle.std.proofs.Common.{◌≡◌, ℕ, zero, suc, pos, Bool, true, List, [], ◌∷◌, map, drop, Option, Some, None, refl, sym, ap, subst, ◌∙◌}
use Rattle.std.specs.Prelude.{slice_get, option_map}
use Rattle.gm_base.specs.declared.places.Place.{Place}
use Rattle.gm_token.specs.declared.words.Word.{Word}
use Rattle.gm_token.specs.declared.words.Word.TheVariants as words
use Rattle.gm_token.specs.Tokens.{Token}
use Rattle.gm_token.specs.Spellings.{decimal_value}
use Rattle.gm_parse.specs.Terminals.{The, fits}
use Rattle.gm_parse.specs.Trees.{Reads, ReadsWord, ReadsNumber}

number_only : (w : Word) → fits (The words.Number) w ≡ true → w ≡ words.Number
number_only words.Number h = refl
number_only _ h = absurd cc

pub number_here : (xs : List Token) (i : ℕ) {p : Place} {us : List Token} → Reads words.Number (drop i xs) p us → slice_get (map (λ (t : Token). t.word) xs) i ≡ Some words.Number
number_here [] zero r = elim r [ ]
number_here [] (suc i) r = elim r [ ]
number_here (t ∷ xs) zero (ReadsWord.word f) = ap (λ (w : Word). Some w) (number_only t.word f)
number_here (t ∷ xs) (suc i) r = number_here xs i r

pub reads_number : (xs : List Token) (i : ℕ) (n : ℕ) {p : Place} {us : List Token} → Reads words.Number (drop i xs) p us → option_map decimal_value (slice_get (map (λ (t : Token). t.text) xs) i) ≡ Some n → ReadsNumber (drop i xs) p (pos n) us
reads_number [] zero n r e = elim r [ ]
reads_number [] (suc i) n r e = elim r [ ]
reads_number (t ∷ xs) zero n (ReadsWord.word f) e =
    let same : decimal_value t.text ≡ n = cc in
    subst (λ (m : ℕ). ReadsNumber (t ∷ xs) t.place (pos m) xs) same (ReadsNumber.number f)
reads_number (t ∷ xs) (suc i) n r e = reads_number xs i n r e
