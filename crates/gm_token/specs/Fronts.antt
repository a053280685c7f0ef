-- What the scanner's steps find at the front of a text, counted in bytes.
use Rattle.std.specs.Prelude.{◌≡◌, ℕ, ◌<◌, ◌≤◌, Bool, true, false, not, ◌&&◌, nat_eq, List, [], ◌∷◌, ◌++◌, length, take, drop, slice_index, Option, Some, None, Contains, codes, if◌then◌else◌}
use Rattle.std.specs.List.{AllPass, starts_with}
use Rattle.gm_token.specs.declared.words.Word.{Word}
use Rattle.gm_token.specs.Bytes.{is_digit}
use Rattle.gm_token.specs.Words.{symbols}
use Rattle.gm_token.specs.Spellings.{may_precede, IsToken}
use Rattle.gm_token.specs.Scanning.{HasCommentEnd}

-- the first n pass, and the next one, if there is one, does not
pub record IsRun (p : ℕ → Bool) (xs : List ℕ) (n : ℕ) : Type 0 where
  pub in_list : n ≤ length xs
  pub before : AllPass p (take n xs)
  pub after : n < length xs → p (slice_index xs n) ≡ false

-- any byte but LF
abbrev pub is_no_lf : ℕ → Bool
is_no_lf b = not (nat_eq b 10)

-- whether the text begins with this row's symbol, and the symbol may stand there
abbrev pub fits_front : List ℕ → List ℕ × Word → Bool
fits_front text row = starts_with nat_eq text row.0 && may_precede row.1 (drop (length row.0) text)

-- the first symbol of a table that may stand at the front, and its length
abbrev pub first_symbol : List (List ℕ × Word) → List ℕ → Option (Word × ℕ)
first_symbol [] text = None
first_symbol (row ∷ rows) text = if fits_front text row then Some (row.1, length row.0) else first_symbol rows text

-- no symbol that is longer than n may stand at the front
abbrev pub NoSymbolFront : ℕ → List ℕ → Type 0
NoSymbolFront n bs = (w : Word) (m : ℕ) → n < m → m ≤ length bs → Contains symbols (take m bs, w) → may_precede w (drop m bs) ≡ true → ⊥

-- the first n bytes are a token with this word, and no longer front is one
pub record IsLongestFront (w : Word) (n : ℕ) (bs : List ℕ) : Type 0 where
  pub in_text : n ≤ length bs
  pub token : IsToken w (take n bs) (drop n bs)
  pub longest : (v : Word) (m : ℕ) → n < m → m ≤ length bs → ¬ IsToken v (take m bs) (drop m bs)

-- no front is a token
abbrev pub NoFront : List ℕ → Type 0
NoFront bs = (v : Word) (m : ℕ) → m ≤ length bs → ¬ IsToken v (take m bs) (drop m bs)

-- a digit is at the front
abbrev pub BeginsDigit : List ℕ → Type 0
BeginsDigit bs = (0 < length bs) × (is_digit (slice_index bs 0) ≡ true)

-- the first n bytes are a body and the first `*/`
pub record IsCommentEnd (bs : List ℕ) (n : ℕ) : Type 0 where
  pub in_text : n ≤ length bs
  pub body : List ℕ
  pub spelled : take n bs ≡ body ++ codes "*/"
  pub no_earlier_end : ¬ HasCommentEnd (body ++ codes "*")
