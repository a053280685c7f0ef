-- Types and names as they grow.
use Rattle.std.proofs.Common.{◌≡◌, ℕ, ◌<◌, ◌≤◌, List, [], ◌∷◌, ◌++◌, map, fold, length, drop, Option, Some, None, refl, sym, ap, subst, ◌∙◌, Result}
use Rattle.std.proofs.lemmas.List.{map-append}
use Rattle.std.proofs.lemmas.List.Sums.{fold-append}
use Rattle.gm_token.specs.declared.words.Word.TheVariants as words
use Rattle.gm_token.specs.Tokens.{Token, Listing, words_of}
use Rattle.gm_ast.specs.declared.surface.Name.{Name}
use Rattle.gm_ast.specs.declared.surface.TypeWord.{TypeWord}
use Rattle.gm_ast.specs.declared.surface.PropertyLayer.{PropertyLayer}
use Rattle.gm_ast.specs.Surface as trees
use Rattle.gm_ast.specs.Surface.{SurfaceName, SurfaceType, SurfaceGroup}
use Rattle.gm_ast.specs.SurfaceTree.{name_of, layer_over}
use Rattle.gm_parse.specs.declared.around.Around.{Around}
use Rattle.gm_parse.specs.declared.faults.Fault.{Fault}
use Rattle.gm_parse.specs.Grammar.{Rule, Many, ◌▸◌, the, a_name}
use Rattle.gm_parse.specs.Goes.{Goes}
use Rattle.gm_parse.specs.Trees.{ReadsType, ReadsNames}

-- a type with no layers is its base
pub as_type : {us vs : List Token} {t : SurfaceType} {ls : List PropertyLayer} → ls ≡ [] → ReadsType us t vs → ReadsType us (fold layer_over t ls) vs
as_type {us} {vs} {t} e r = subst (λ (xs : List PropertyLayer). ReadsType us (fold layer_over t xs) vs) (sym e) r

-- one more layer is one more property type
pub as_layered : {us vs : List Token} (t : SurfaceType) (ls : List PropertyLayer) (l : PropertyLayer) {ms : List PropertyLayer} → ms ≡ ls ++ l ∷ [] → ReadsType us (layer_over (fold layer_over t ls) l) vs → ReadsType us (fold layer_over t ms) vs
as_layered {us} {vs} t ls l e r = subst (λ (x : SurfaceType). ReadsType us x vs) (sym (ap (fold layer_over t) e ∙ fold-append layer_over t ls (l ∷ []))) r

pub mapped_on : {A B : Type 0} (f : A → B) (xs : List A) (x : A) {ys : List A} → ys ≡ xs ++ x ∷ [] → map f ys ≡ map f xs ++ f x ∷ []
mapped_on f xs x e = ap (map f) e ∙ map-append f xs (x ∷ [])

pub names_on : (xs : List Name) (x : Name) {ys : List Name} → ys ≡ xs ++ x ∷ [] → map name_of ys ≡ map name_of xs ++ name_of x ∷ []
names_on xs x e = mapped_on name_of xs x e

-- what further names give from index k on, the names give from their beginning; and so for trees
pub record NamesSoFar (a : Around) (it : Listing) (i k : ℕ) (first names : List Name) : Type 0 where
  pub goes : (r : Result ℕ Fault) → Goes (Many (the words.Comma ▸ a_name)) a (words_of it) k r → Goes (Many (the words.Comma ▸ a_name)) a (words_of it) i r
  pub tree : (us : List Token) → ReadsNames us (map name_of first) (drop i it.tokens) → ReadsNames us (map name_of names) (drop k it.tokens)
  pub begun : i ≤ k
  pub in_text : k ≤ length it.tokens
