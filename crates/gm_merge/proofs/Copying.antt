-- Copies, one after another, and operations without a place.
use Rattle.std.proofs.Common.{◌≡◌, ◌<◌, ℕ, ◌+◌, false, Option, Some, None, List, [], ◌∷◌, ◌++◌, map, length, take, get_or, refl, sym, ap, ◌∙◌}
use Rattle.std.proofs.lemmas.List.{map-append, take_more}
use Rattle.gm_image.specs.Ranges.{PlaceFits}

pub no_place : (place : Option ℕ) → PlaceFits false place → place ≡ None
no_place None fits = refl
no_place (Some place) fits = absurd fits

pub taken-more : {A B : Type 0} (f : A → B) (xs : List A) (i : ℕ) (x : A) → i < length xs → x ≡ get_or xs i x → map f (take (i + 1) xs) ≡ map f (take i xs) ++ f x ∷ []
taken-more {A} f xs i x l is = ap (map f) (take_more xs i x l ∙ ap (λ (y : A). take i xs ++ y ∷ []) (sym is)) ∙ map-append f (take i xs) (x ∷ [])

-- the copies so far and one more
pub copied-more : {A B : Type 0} (f : A → B) (xs copies new : List A) (i : ℕ) (x copy : A) → new ≡ copies ++ copy ∷ [] → map f copies ≡ map f (take i xs) → f copy ≡ f x
    → i < length xs → x ≡ get_or xs i x → map f new ≡ map f (take (i + 1) xs)
copied-more {A} {B} f xs copies new i x copy is done same l at =
    ap (map f) is ∙ map-append f copies (copy ∷ []) ∙ ap (λ (ys : List B). ys ++ f copy ∷ []) done
    ∙ ap (λ (y : B). map f (take i xs) ++ y ∷ []) same ∙ sym (taken-more f xs i x l at)
