-- How the tokens of a text are kept, and what contracts see of them.
use Rattle.std.specs.Prelude.{◌≡◌, ℕ, ◌+◌, ◌≤◌, List, map, length, take, drop, All}
use Rattle.gm_token.specs.Limits.{greatest_number}
use Rattle.gm_token.specs.declared.words.Word.TheVariants.{Number}
use Rattle.gm_token.specs.declared.scanned.Row.{Row}
use Rattle.gm_token.specs.declared.scanned.Tokens.TheInside.{Inside}
use Rattle.gm_token.specs.Spellings.{IsNumber, decimal_value}
use Rattle.gm_token.specs.Tokens.{Token, Listing}

-- the bytes of a row's token
abbrev pub row_text : List ℕ → Row → List ℕ
row_text text row = take row.length (drop row.offset text)

abbrev pub token_of : List ℕ → Row → Token
token_of text row = record { word = row.word; place = row.place; text = row_text text row }

abbrev pub listing_of : Inside → Listing
listing_of it = record { tokens = map (token_of it.text.now) it.rows.items; end = it.end }

-- a row lies in the text, and that of a number has digits that say a number within the limit
pub record IsSound (text : List ℕ) (row : Row) : Type 0 where
  pub in_text : row.offset + row.length ≤ length text
  pub number : row.word ≡ Number → IsNumber (row_text text row) × (decimal_value (row_text text row) ≤ greatest_number)

abbrev pub AreSound : Inside → Type 0
AreSound it = All (IsSound it.text.now) it.rows.items
