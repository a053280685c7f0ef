-- Tuples as they grow.
use Rattle.std.proofs.Common.{◌≡◌, ℕ, ◌≤◌, List, [], ◌∷◌, ◌++◌, map, length, drop, refl, sym, ap, subst, ◌∙◌, Result}
use Rattle.gm_base.specs.declared.places.Place.{Place}
use Rattle.gm_token.specs.declared.words.Word.TheVariants as words
use Rattle.gm_token.specs.Tokens.{Token, Listing, words_of}
use Rattle.gm_parse.specs.declared.around.Around.{Around}
use Rattle.gm_parse.specs.declared.faults.Fault.{Fault}
use Rattle.gm_parse.specs.Grammar.{Rule, Many, ◌▸◌, the}
use Rattle.gm_parse.specs.Goes.{Goes}
use Rattle.gm_parse.specs.Trees.{Reads, ReadsEntries}
use Rattle.gm_parse.proofs.TypeLaws.{mapped_on}

-- what further entries give from index k on, the entries give from their beginning; and so for trees
pub record EntriesSoFar {S A : Type 0} (x : Rule) (view : S → A) (ReadsOne : List Token → A → List Token → Type 0) (a : Around) (it : Listing) (i k : ℕ) (first entries : List S) : Type 0 where
  pub goes : (r : Result ℕ Fault) → Goes (Many (the words.Comma ▸ x)) a (words_of it) k r → Goes (Many (the words.Comma ▸ x)) a (words_of it) i r
  pub tree : (us : List Token) → ReadsEntries ReadsOne us (map view first) (drop i it.tokens) → ReadsEntries ReadsOne us (map view entries) (drop k it.tokens)
  pub begun : i ≤ k
  pub in_text : k ≤ length it.tokens

module _ {S A : Type 0} (view : S → A) (ReadsOne : List Token → A → List Token → Type 0) where
  as_entries : {us vs : List Token} {es fs : List A} → fs ≡ es → ReadsEntries ReadsOne us es vs → ReadsEntries ReadsOne us fs vs
  as_entries {us} {vs} e r = subst (λ (xs : List A). ReadsEntries ReadsOne us xs vs) (sym e) r

  -- one entry more
  pub entries_more : {us vs ws xs : List Token} (es : List S) (e : S) {fs : List S} {p : Place} → fs ≡ es ++ e ∷ [] → ReadsEntries ReadsOne us (map view es) vs → Reads words.Comma vs p ws → ReadsOne ws (view e) xs → ReadsEntries ReadsOne us (map view fs) xs
  entries_more es e h r c o = as_entries (mapped_on view es e h) (ReadsEntries.more r c o)

  -- the first two
  pub entries_two : {us vs ws xs : List Token} {none one two : List S} (a b : S) {p : Place} → none ≡ [] → one ≡ none ++ a ∷ [] → two ≡ one ++ b ∷ [] → ReadsOne us (view a) vs → Reads words.Semicolon vs p ws → ReadsOne ws (view b) xs → ReadsEntries ReadsOne us (map view two) xs
  entries_two a b h f g r s t = as_entries (ap (map view) (g ∙ ap (λ (l : List S). l ++ b ∷ []) (f ∙ ap (λ (l : List S). l ++ a ∷ []) h))) (ReadsEntries.two r s t)
