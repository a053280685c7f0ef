-- Reading the items of a list one after another.
use Rattle.std.proofs.Common.{◌≡◌, ℕ, ◌+◌, ◌<◌, ◌≤◌, List, [], ◌∷◌, length, map, drop, get_or, sym, subst, add-one}
use Rattle.std.specs.List.{AllByRecursion}
use Rattle.std.proofs.Math.Seq.{drop-cons}
use Rattle.std.proofs.Math.ListN.{drop_of_length-le}

-- what is said of the items that are left is all that is wanted
pub record IsReading {A : Type 0} (P : A → Type 0) (xs : List A) (i : ℕ) : Type 0 where
  pub left : AllByRecursion P (drop i xs) → AllByRecursion P xs

pub reads_none : {A : Type 0} (P : A → Type 0) (xs : List A) → IsReading P xs 0
reads_none P xs = record { left = λ h. h }

pub reads_on : {A : Type 0} (P : A → Type 0) (xs : List A) (i : ℕ) (x : A) → IsReading P xs i → i < length xs → x ≡ get_or xs i x → P x → IsReading P xs (i + 1)
reads_on P xs i x w within is h =
    let here : drop i xs ≡ get_or xs i x ∷ drop (i + 1) xs = rw add-one (drop-cons xs i x within) in
    record { left = λ more. w.left (subst (λ ys. AllByRecursion P ys) (sym here) (subst P is h, more)) }

pub reads_all : {A : Type 0} (P : A → Type 0) (xs : List A) (i : ℕ) → IsReading P xs i → length xs ≤ i → AllByRecursion P xs
reads_all P xs i w end = w.left (subst (λ ys. AllByRecursion P ys) (sym (drop_of_length-le xs end)) tt)

-- what is said of each item through a view is said of each view
pub all_seen : {A B : Type 0} (view : A → B) (P : B → Type 0) (xs : List A) → AllByRecursion (λ x. P (view x)) xs → AllByRecursion P (map view xs)
all_seen view P [] h = tt
all_seen view P (x ∷ xs) h = (h.0, all_seen view P xs h.1)
