-- Parts of lists that stand in others.
use Rattle.std.proofs.Common.{◌≡◌, ℕ, zero, suc, ◌+◌, Some, List, [], ◌∷◌, ◌++◌, length, ap, ◌∙◌, subst, arith}
use Rattle.std.specs.Prelude.{slice_get, slice_index_or}
use Rattle.gm_lowering_master.specs.Runs.{StandsAt}

pub stands-left : {A : Type 0} (all : List A) (i : ℕ) (xs ys : List A) → StandsAt all i (xs ++ ys) → StandsAt all i xs
stands-left all i [] ys h = tt
stands-left all i (x ∷ xs) ys h = (h.0, stands-left all (suc i) xs ys h.1)

pub stands-right : {A : Type 0} (all : List A) (i : ℕ) (xs ys : List A) → StandsAt all i (xs ++ ys) → StandsAt all (i + length xs) ys
stands-right all i [] ys h = let e : i ≡ i + 0 = omega arith in subst (λ j. StandsAt all j ys) e h
stands-right all i (x ∷ xs) ys h =
    let e : suc i + length xs ≡ i + suc (length xs) = omega arith in subst (λ j. StandsAt all j ys) e (stands-right all (suc i) xs ys h.1)

-- a member of what stands in a list
pub stands-get : {A : Type 0} (all : List A) (i : ℕ) (xs : List A) (j : ℕ) (x : A) → StandsAt all i xs → slice_get xs j ≡ Some x → slice_get all (i + j) ≡ Some x
stands-get all i [] j x h e = cc
stands-get all i (y ∷ ys) zero x h e = let z : i + 0 ≡ i = omega arith in ap (slice_get all) z ∙ h.0 ∙ e
stands-get all i (y ∷ ys) (suc j) x h e =
    let z : i + suc j ≡ suc i + j = omega arith in ap (slice_get all) z ∙ stands-get all (suc i) ys j x h.1 e

-- an index that is found is found with any default
pub get-is-index_or : {A : Type 0} (xs : List A) (i : ℕ) (x d : A) → slice_get xs i ≡ Some x → slice_index_or xs i d ≡ x
get-is-index_or [] i x d e = cc
get-is-index_or (y ∷ ys) zero x d e = cc
get-is-index_or (y ∷ ys) (suc i) x d e = get-is-index_or ys i x d e
