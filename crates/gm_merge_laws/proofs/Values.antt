-- What lists hold after a slot is set, and what a conjunction that fails says.
use Rattle.std.proofs.Common.{◌≡◌, ℕ, zero, suc, Bool, true, false, ◌&&◌, List, [], ◌∷◌, take, refl, ap, ◌∙◌}
use Rattle.std.specs.List.{list_all}
use Rattle.std.proofs.lemmas.Bool.{and_parts}

pub and-left : (a b : Bool) → a ≡ false → a && b ≡ false
and-left a b e = ap (λ x. x && b) e

pub and-right : (a b : Bool) → b ≡ false → a && b ≡ false
and-right true b e = e
and-right false b e = refl

-- all of the first elements pass where all do
pub all-take : {A : Type 0} (t : A → Bool) (n : ℕ) (xs : List A) → list_all t xs ≡ true → list_all t (take n xs) ≡ true
all-take t zero xs h = refl
all-take t (suc n) [] h = refl
all-take t (suc n) (x ∷ xs) h =
    let parts = and_parts (t x) (list_all t xs) h in
    ap (λ b. b && list_all t (take n xs)) parts.0 ∙ all-take t n xs parts.1

-- some element fails where one of the first does
pub fails-take : {A : Type 0} (t : A → Bool) (n : ℕ) (xs : List A) → list_all t (take n xs) ≡ false → list_all t xs ≡ false
fails-take t zero xs h = cc
fails-take t (suc n) [] h = cc
fails-take t (suc n) (x ∷ xs) h = one (t x) (fails-take t n xs) h where
  one : (b : Bool) → (list_all t (take n xs) ≡ false → list_all t xs ≡ false) → b && list_all t (take n xs) ≡ false → b && list_all t xs ≡ false
  one true go e = go e
  one false go e = refl
