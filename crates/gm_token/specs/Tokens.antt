-- The tokens of a text, as contracts see them.
use Rattle.std.specs.Prelude.{ℕ, List, map}
use Rattle.gm_base.specs.declared.places.Place.{Place}
use Rattle.gm_token.specs.declared.words.Word.{Word}

-- a token: its word, the place of its first byte, and its bytes
pub record Token : Type 0 where
  pub word : Word
  pub place : Place
  pub text : List ℕ

-- the tokens of a text in order, and the place after its last byte
pub record Listing : Type 0 where
  pub tokens : List Token
  pub end : Place

abbrev pub words_of : Listing → List Word
words_of it = map (λ token. token.word) it.tokens

abbrev pub places_of : Listing → List Place
places_of it = map (λ token. token.place) it.tokens

abbrev pub texts_of : Listing → List (List ℕ)
texts_of it = map (λ token. token.text) it.tokens
