-- What the rows of a text's tokens say of its listing.
use Rattle.std.proofs.Common.{◌≡◌, ℕ, ◌<◌, ◌≤◌, List, [], ◌∷◌, map, length, get_or, refl, sym, ap, subst, ◌∙◌, arith}
use Rattle.std.specs.Prelude.{slice_get, option_map, Some}
use Rattle.std.proofs.lemmas.List.{length-map}
use Rattle.std.proofs.lemmas.Option.{slice_get-map, slice_get_read, slice_get_within}
use Rattle.std.proofs.lemmas.List.Elements.{All-get_or}
use Rattle.std.specs.List.{AllPass}
use Rattle.gm_token.specs.declared.scanned.Row.{Row}
use Rattle.gm_token.specs.declared.scanned.Tokens.TheInside.{Inside}
use Rattle.gm_token.specs.Limits.{greatest_number}
use Rattle.gm_token.specs.declared.words.Word.{Word}
use Rattle.gm_token.specs.declared.words.Word.TheVariants.{Number}
use Rattle.gm_token.specs.Bytes.{is_digit}
use Rattle.gm_token.specs.Spellings.{IsNumber, decimal_value}
use Rattle.gm_token.specs.Tokens.{Token, Listing, words_of}
use Rattle.gm_token.specs.Rows.{row_text, token_of, listing_of, IsSound, AreSound}

-- there are as many rows as tokens
pub rows_there : (it : Inside) (value : Listing) → listing_of it ≡ value → length value.tokens ≡ length it.rows.items
rows_there it value e = ap (λ (v : Listing). length v.tokens) (sym e) ∙ length-map it.rows.items (token_of it.text.now)

-- what the listing says at an index is what the row there says
pub at_row : {A : Type 0} (f : Token → A) (it : Inside) (value : Listing) (i : ℕ) (row : Row) → listing_of it ≡ value → i < length value.tokens → row ≡ get_or it.rows.items i row
    → slice_get (map f value.tokens) i ≡ Some (f (token_of it.text.now row))
at_row f it value i row e lt r =
    let rows = it.rows.items in
    let there : i < length rows = omega (arith, rows_there it value e) in
    ap (λ (v : Listing). slice_get (map f v.tokens) i) (sym e) ∙ slice_get-map f (map (token_of it.text.now) rows) i
    ∙ ap (option_map f) (slice_get-map (token_of it.text.now) rows i ∙ ap (option_map (token_of it.text.now)) (slice_get_read rows (length rows) i row refl there r))

some_is : {A : Type 0} (x y : A) → Some x ≡ Some y → x ≡ y
some_is x y e = cc

-- where a listing has a word, it has a token
pub token_there : (value : Listing) (i : ℕ) (word : Word) → slice_get (words_of value) i ≡ Some word → i < length value.tokens
token_there value i word n = omega (arith, slice_get_within (words_of value) i word n, length-map value.tokens (λ (token : Token). token.word))

-- where a listing has a number, the row there has digits that say a number within the limit
pub number_there : (it : Inside) (value : Listing) (i : ℕ) (row : Row) → listing_of it ≡ value → AreSound it → slice_get (words_of value) i ≡ Some Number → row ≡ get_or it.rows.items i row
    → IsNumber (row_text it.text.now row) × (decimal_value (row_text it.text.now row) ≤ greatest_number)
number_there it value i row e sound n r =
    let within : i < length value.tokens = token_there value i Number n in
    let there : i < length it.rows.items = omega (arith, rows_there it value e) in
    let word : row.word ≡ Number = some_is row.word Number (sym (at_row (λ token. token.word) it value i row e within r) ∙ n) in
    (subst (λ (x : Row). IsSound it.text.now x) (sym r) (All-get_or (IsSound it.text.now) it.rows.items i row there sound)).number word

-- digits are digits
pub digits_of : (bs : List ℕ) → IsNumber bs → AllPass is_digit bs
digits_of [] n = absurd n
digits_of (b ∷ bs) n = n
