-- Whether a reduction is the one by which each of its slots was reduced first, slot by slot.
use Rattle.std.proofs.Common.{◌≡◌, ℕ, Bool, true, false, Option, Some, None, List, ◌∷◌, map, refl, sym, ap, ◌∙◌}
use Rattle.std.specs.Prelude.{nat_eq, ◌&&◌, slice_get, find}
use Rattle.std.specs.List.{list_all}
use Rattle.std.specs.HashMap.{get}
use Rattle.gm_image.specs.Folds as F
use Rattle.gm_image.specs.Folds.{has_slot, same_as_first, is_the_one}
use Rattle.gm_verify.specs.declared.firsts.Firsts.{Firsts}
use Rattle.gm_verify.specs.Firsts.{reduction_of, found_at, ShowsFirsts}
use Rattle.gm_verify.proofs.Lists.{all-same}

-- whether a reduction is the one that the code found first for a slot
abbrev pub is_first : Firsts → F.Reduction → ℕ → Bool
is_first f r i = same_as_first r (found_at (map reduction_of f.reductions.items) (get nat_eq f.indices i))

-- the slots that are left give the answer, and the reduction is the one of an index
pub record Ones (f : Firsts) (r : F.Reduction) (all rest : List ℕ) (same : Option ℕ) : Type 0 where
  pub left : list_all (is_first f r) rest ≡ list_all (is_first f r) all
  pub known : (k : ℕ) → same ≡ Some k → same_as_first r (slice_get (map reduction_of f.reductions.items) k) ≡ true

pub ones-start : (f : Firsts) (r : F.Reduction) (all : List ℕ) → Ones f r all all None
ones-start f r all = record { left = refl; known = λ k h. absurd cc }

-- a slot that was not reduced
pub ones-new : (f : Firsts) (r : F.Reduction) (all rest : List ℕ) (x : ℕ) (same : Option ℕ) → Ones f r all (x ∷ rest) same → get nat_eq f.indices x ≡ None → Ones f r all rest same
ones-new f r all rest x same o none = record {
  left = sym (ap (λ (k : Option ℕ). same_as_first r (found_at (map reduction_of f.reductions.items) k) && list_all (is_first f r) rest) none) ∙ o.left;
  known = o.known;
}

-- a slot that was reduced first by the reduction at an index, which it is
pub ones-next : (f : Firsts) (r : F.Reduction) (all rest : List ℕ) (x index : ℕ) (same : Option ℕ) → Ones f r all (x ∷ rest) same → get nat_eq f.indices x ≡ Some index
    → same_as_first r (slice_get (map reduction_of f.reductions.items) index) ≡ true → Ones f r all rest (Some index)
ones-next f r all rest x index same o some is = record {
  left =
      sym (ap (λ (k : Option ℕ). same_as_first r (found_at (map reduction_of f.reductions.items) k) && list_all (is_first f r) rest) some
      ∙ ap (λ (b : Bool). b && list_all (is_first f r) rest) is) ∙ o.left;
  known = λ k h. let e : index ≡ k = cc in ap (λ (j : ℕ). same_as_first r (slice_get (map reduction_of f.reductions.items) j)) (sym e) ∙ is;
}

-- or which it is not
pub ones-stop : (f : Firsts) (r : F.Reduction) (all rest : List ℕ) (x index : ℕ) (same : Option ℕ) → Ones f r all (x ∷ rest) same → get nat_eq f.indices x ≡ Some index
    → same_as_first r (slice_get (map reduction_of f.reductions.items) index) ≡ false → false ≡ list_all (is_first f r) all
ones-stop f r all rest x index same o some is =
    sym (ap (λ (k : Option ℕ). same_as_first r (found_at (map reduction_of f.reductions.items) k) && list_all (is_first f r) rest) some
    ∙ ap (λ (b : Bool). b && list_all (is_first f r) rest) is) ∙ o.left

-- what the code finds first is what is first
pub ones-are : (f : Firsts) (r : F.Reduction) (rs : List F.Reduction) → ShowsFirsts f rs → list_all (is_first f r) r.slots ≡ is_the_one rs r
ones-are f r rs s =
    all-same (is_first f r) (λ (i : ℕ). same_as_first r (find (has_slot i) rs))
    (λ i. ap (λ (xs : List F.Reduction). same_as_first r (found_at xs (get nat_eq f.indices i))) (sym s.reductions) ∙ ap (same_as_first r) (sym (s.first i))) r.slots
