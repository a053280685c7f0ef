-- Walks over kinds and blocks.
use Rattle.std.proofs.Common.{◌≡◌, ◌+◌, ◌<◌, ◌≤◌, ℕ, List, [], ◌∷◌, ◌++◌, length, map, drop, get_or, subst}
use Rattle.std.specs.List.{flat_map}
use Rattle.gm_image.specs.Program.{Program}
use Rattle.gm_image.specs.Rows.{Row}
use Rattle.gm_verify.specs.Checks.{Walks}
use Rattle.gm_verify.proofs.Lists.{nothing-left}
use Rattle.gm_verify.proofs.Declared.{rest-at}

-- the next of some lines, and those after it
pub mapped-at : {A : Type 0} (p : Program) (n : ℕ) (all : List Row) (m : ℕ) (f : A → Row) (xs : List A) (i : ℕ) (x : A) → i < length xs → x ≡ get_or xs i x
    → Walks p n all m (map f (drop i xs)) → Walks p n all m (f x ∷ map f (drop (i + 1) xs))
mapped-at p n all m f xs i x lt is w = subst (λ (rs : List Row). Walks p n all m rs) (rest-at f xs i x lt is) w

pub mapped-end : {A : Type 0} (p : Program) (n : ℕ) (all : List Row) (m : ℕ) (f : A → Row) (xs : List A) (i : ℕ) → length xs ≤ i → Walks p n all m (map f (drop i xs)) → Walks p n all m []
mapped-end {A} p n all m f xs i end w = subst (λ (ys : List A). Walks p n all m (map f ys)) (nothing-left xs i end) w

-- the lines of the next of some parts, and those of the parts after it
pub flat-at : {A B : Type 0} (p : Program) (n : ℕ) (all : List Row) (m : ℕ) (f : B → List Row) (g : A → B) (xs : List A) (i : ℕ) (x : A) → i < length xs → x ≡ get_or xs i x
    → Walks p n all m (flat_map f (map g (drop i xs))) → Walks p n all m (f (g x) ++ flat_map f (map g (drop (i + 1) xs)))
flat-at {A} {B} p n all m f g xs i x lt is w = subst (λ (ys : List B). Walks p n all m (flat_map f ys)) (rest-at g xs i x lt is) w

pub flat-end : {A B : Type 0} (p : Program) (n : ℕ) (all : List Row) (m : ℕ) (f : B → List Row) (g : A → B) (xs : List A) (i : ℕ) → length xs ≤ i
    → Walks p n all m (flat_map f (map g (drop i xs))) → Walks p n all m []
flat-end {A} p n all m f g xs i end w = subst (λ (ys : List A). Walks p n all m (flat_map f (map g ys))) (nothing-left xs i end) w
