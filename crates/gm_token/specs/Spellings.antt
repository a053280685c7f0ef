-- What a token may be made of, and what may follow it.
use Rattle.std.specs.Prelude.{◌≡◌, ℕ, ◌+◌, ◌*◌, ◌-◌, fold, Bool, true, false, not, ◌||◌, nat_eq, List, [], ◌∷◌, ◌++◌, Contains, codes}
use Rattle.std.specs.List.{AllPass}
use Rattle.gm_token.specs.declared.words.Word.{Word}
use Rattle.gm_token.specs.declared.words.Word.TheVariants.{Number, Real, Slash, MinAssign, MaxAssign}
use Rattle.gm_token.specs.Bytes.{is_digit, begins_name, goes_on_name}
use Rattle.gm_token.specs.Words.{symbols, name_word}

-- a letter or `_`, then letters, digits and `_`
abbrev pub IsName : List ℕ → Type 0
IsName [] = ⊥
IsName (b ∷ bs) = (begins_name b ≡ true) × AllPass goes_on_name bs

-- one digit or more
abbrev pub IsNumber : List ℕ → Type 0
IsNumber [] = ⊥
IsNumber (b ∷ bs) = AllPass is_digit (b ∷ bs)

-- digits, a dot and digits
abbrev pub IsReal : List ℕ → Type 0
IsReal bs = (whole : List ℕ) × ((part : List ℕ) × IsNumber whole × IsNumber part × (bs ≡ whole ++ (codes "." ++ part)))

-- the number that decimal digits say, the most significant one first
abbrev pub decimal_value : List ℕ → ℕ
decimal_value digits = fold (λ value digit. value * 10 + (digit - 48)) 0 digits

-- whether these bytes begin with this one
abbrev pub begins_with : ℕ → List ℕ → Bool
begins_with b [] = false
begins_with b (c ∷ cs) = nat_eq c b

-- whether a symbol may stand before these bytes: `min=` and `max=` not before another `=`, and `/` not where a
-- comment begins, which is before `/` and before `*`
abbrev pub may_precede : Word → List ℕ → Bool
may_precede MinAssign rest = not (begins_with 61 rest)
may_precede MaxAssign rest = not (begins_with 61 rest)
may_precede Slash rest = not (begins_with 47 rest || begins_with 42 rest)
may_precede _ rest = true

-- these bytes are a token with this word, where this rest follows
pub data IsToken : Word → List ℕ → List ℕ → Type 0 where
  name : {w : Word} {bs rest : List ℕ} → IsName bs → w ≡ name_word bs → IsToken w bs rest
  number : {w : Word} {bs rest : List ℕ} → IsNumber bs → w ≡ Number → IsToken w bs rest
  real : {w : Word} {bs rest : List ℕ} → IsReal bs → w ≡ Real → IsToken w bs rest
  symbol : {w : Word} {bs rest : List ℕ} → Contains symbols (bs, w) → may_precede w rest ≡ true → IsToken w bs rest
