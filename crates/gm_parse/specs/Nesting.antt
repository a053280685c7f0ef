-- Property types in one another, as the parser reads them: all beginnings, the type in the middle, all ends.
use Rattle.std.specs.Prelude.{◌≡◌, ℕ, suc, List, [], ◌∷◌, ◌++◌, Result, Ok, Err}
use Rattle.gm_base.specs.declared.places.Place.{Place}
use Rattle.gm_token.specs.declared.words.Word.{Word}
use Rattle.gm_token.specs.declared.words.Word.TheVariants as words
use Rattle.gm_token.specs.Tokens.{Token}
use Rattle.gm_ast.specs.declared.surface.Bearer.{Bearer}
use Rattle.gm_parse.specs.declared.around.Around.{Around}
use Rattle.gm_parse.specs.declared.faults.Fault.{Fault}
use Rattle.gm_parse.specs.declared.reading.Placed.{Placed}
use Rattle.gm_parse.specs.Grammar.{Rule, Of, ◌▸◌, Maybe, the, TypeName, OfGraph}
use Rattle.gm_parse.specs.Goes.{Goes}
use Rattle.gm_parse.specs.Choices.{bearer_word}
use Rattle.gm_parse.specs.Trees.{Reads, ReadsAs}

-- the end of a property type
abbrev pub an_end : Rule
an_end = the words.Greater ▸ Maybe (Of OfGraph)

-- Where a type was read to its end, the ends of n property types around it are read, the innermost first, to a place
-- or to the first fault; a fault in the type is theirs.
pub data Closes (a : Around) (ws : List Word) : ℕ → Result ℕ Fault → Result ℕ Fault → Type 0 where
  none : {r : Result ℕ Fault} → Closes a ws 0 r r
  fault : {n : ℕ} {e : Fault} → Closes a ws n (Err e) (Err e)
  more : {n j : ℕ} {r s : Result ℕ Fault} → Goes an_end a ws j r → Closes a ws n r s → Closes a ws (suc n) (Ok j) s

-- Between places i and k are the beginnings of n property types: a type read from place k, and then n ends, are a type
-- read from place i.
pub record Encloses (a : Around) (ws : List Word) (i k n : ℕ) : Type 0 where
  pub goes : (r s : Result ℕ Fault) → Goes (Of TypeName) a ws k r → Closes a ws n r s → Goes (Of TypeName) a ws i s

-- the beginnings of property types, the outermost first: a bearer word and `<` for each
pub data ReadsOpenings : List Token → List (Placed Bearer) → List Token → Type 0 where
  none : {us : List Token} → ReadsOpenings us [] us
  more : {us vs ws xs : List Token} {bs cs : List (Placed Bearer)} {b : Bearer} {p q : Place}
      → ReadsOpenings us bs vs → ReadsAs bearer_word vs b p ws → Reads words.Less ws q xs → cs ≡ bs ++ record { value = b; place = p } ∷ []
      → ReadsOpenings us cs xs
