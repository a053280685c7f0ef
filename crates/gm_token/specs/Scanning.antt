-- What a text is made of: tokens, each the longest that may stand at its place, with blanks and comments between;
-- and where a text that is not made so is refused.
use Rattle.std.specs.Prelude.{◌≡◌, ◌⊎◌, ℕ, ◌<◌, ◌≤◌, true, List, [], ◌∷◌, ◌++◌, length, take, Contains, codes}
use Rattle.gm_base.specs.declared.places.Place.{Place}
use Rattle.gm_base.specs.declared.rules.Rule.{Rule}
use Rattle.gm_base.specs.declared.rules.Rule.TheVariants.{BadByte, NumberTooLarge, OpenComment, TextTooLong}
use Rattle.gm_base.specs.declared.rules.Refusal.{Refusal}
use Rattle.gm_base.specs.declared.rules.Stop.{Stop}
use Rattle.gm_base.specs.declared.rules.Stop.TheVariants.{Refused, NoMemory}
use Rattle.gm_token.specs.declared.words.Word.{Word}
use Rattle.gm_token.specs.Limits.{greatest_number, longest_text}
use Rattle.gm_token.specs.Bytes.{is_blank}
use Rattle.gm_token.specs.Places.{start, past}
use Rattle.gm_token.specs.Spellings.{IsNumber, IsToken, decimal_value}
use Rattle.gm_token.specs.Tokens.{Token, Listing}

-- ---- blanks and comments

-- one space, tab, CR or LF
abbrev pub IsBlank : List ℕ → Type 0
IsBlank bs = (b : ℕ) × (bs ≡ b ∷ []) × (is_blank b ≡ true)

-- `//` and a body without an LF, before an LF or the end of the text
pub record IsLineComment (bs rest : List ℕ) : Type 0 where
  pub body : List ℕ
  pub spelled : bs ≡ codes "//" ++ body
  pub in_line : ¬ Contains body 10
  pub line_ends : (rest ≡ []) ⊎ ((later : List ℕ) × (rest ≡ 10 ∷ later))

-- a `*/` stands somewhere in these bytes
abbrev pub HasCommentEnd : List ℕ → Type 0
HasCommentEnd bs = (before : List ℕ) × ((after : List ℕ) × (bs ≡ before ++ (codes "*/" ++ after)))

-- `/*` and a body, and the first `*/` after that `/*`
pub record IsBlockComment (bs : List ℕ) : Type 0 where
  pub body : List ℕ
  pub spelled : bs ≡ codes "/*" ++ body ++ codes "*/"
  pub no_earlier_end : ¬ HasCommentEnd (body ++ codes "*")

-- these bytes, where this rest follows, are one blank or one comment
abbrev pub IsGap : List ℕ → List ℕ → Type 0
IsGap bs rest = IsBlank bs ⊎ (IsLineComment bs rest ⊎ IsBlockComment bs)

-- ---- tokens

-- these bytes are a token with this word, and no longer one stands at their place
pub record IsLongestToken (w : Word) (bs rest : List ℕ) : Type 0 where
  pub token : IsToken w bs rest
  pub longest : (v : Word) (more later : List ℕ) → more ++ later ≡ bs ++ rest → length bs < length more → ¬ IsToken v more later

-- these bytes are a number above the limit
abbrev pub IsTooLarge : List ℕ → Type 0
IsTooLarge bs = IsNumber bs × (greatest_number < decimal_value bs)

-- From this place on the text is these gaps and tokens, up to a place where these bytes are left.
pub data Scans : Place → List ℕ → List Token → Place → List ℕ → Type 0 where
  here : {at : Place} {text : List ℕ} → Scans at text [] at text
  gap : {at to : Place} {bs rest left : List ℕ} {ts : List Token} → IsGap bs rest → Scans (past at bs) rest ts to left → Scans at (bs ++ rest) ts to left
  token : {at to : Place} {w : Word} {bs rest left : List ℕ} {ts : List Token} → IsLongestToken w bs rest → ¬ IsTooLarge bs → Scans (past at bs) rest ts to left
      → Scans at (bs ++ rest) (record { word = w; place = at; text = bs } ∷ ts) to left

-- the text is within the limit, and these are its tokens and the place after its last byte
abbrev pub IsScanOf : List ℕ → Listing → Type 0
IsScanOf text it = (length text ≤ longest_text) × Scans start text it.tokens it.end []

-- ---- refusals

-- neither a gap nor a token stands at the front, and no comment begins there
pub record IsBadByte (bs : List ℕ) : Type 0 where
  pub some_byte : 0 < length bs
  pub no_gap : (front rest : List ℕ) → bs ≡ front ++ rest → ¬ IsGap front rest
  pub no_comment : (rest : List ℕ) → ¬ (bs ≡ codes "/*" ++ rest)
  pub no_token : (w : Word) (front rest : List ℕ) → bs ≡ front ++ rest → ¬ IsToken w front rest

-- the longest token at the front is a number above the limit
abbrev pub IsNumberTooLarge : List ℕ → Type 0
IsNumberTooLarge bs = (w : Word) × ((front : List ℕ) × ((rest : List ℕ) × (bs ≡ front ++ rest) × IsLongestToken w front rest × IsTooLarge front))

-- a comment begins at the front, and nothing ends it
abbrev pub IsOpenComment : List ℕ → Type 0
IsOpenComment bs = (body : List ℕ) × (bs ≡ codes "/*" ++ body) × (¬ HasCommentEnd body)

-- these bytes break this rule at their front
abbrev pub BreaksAtFront : Rule → List ℕ → Type 0
BreaksAtFront BadByte bs = IsBadByte bs
BreaksAtFront NumberTooLarge bs = IsNumberTooLarge bs
BreaksAtFront OpenComment bs = IsOpenComment bs
BreaksAtFront _ bs = ⊥

-- up to the place of the refusal the text is gaps and tokens, and there its rule is broken
pub record IsFirstBroken (text : List ℕ) (it : Refusal) : Type 0 where
  pub before : List Token
  pub left : List ℕ
  pub scanned : Scans start text before it.place left
  pub broken : BreaksAtFront it.rule left

-- the refusal of a text that is longer than the limit: at the first byte past it
abbrev pub too_long : List ℕ → Refusal
too_long text = record { rule = TextTooLong; place = past start (take longest_text text) }

-- a text is refused so: where it is too long, and else where its first rule is broken
abbrev pub IsRefusalOf : List ℕ → Refusal → Type 0
IsRefusalOf text it = ((longest_text < length text) × (it ≡ too_long text)) ⊎ ((length text ≤ longest_text) × IsFirstBroken text it)

-- why a text was given no tokens: it is refused so, or there was not enough memory
abbrev pub IsStopOf : List ℕ → Stop → Type 0
IsStopOf text (Refused it) = IsRefusalOf text it
IsStopOf text NoMemory = Unit {0}
