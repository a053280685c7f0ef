-- Reductions of a body that agree are by one reduction in each slot.
use Rattle.std.proofs.Common.{◌≡◌, inl, inr, ℕ, Bool, true, false, Some, List, [], ◌∷◌, ◌++◌, map, refl, ap, sym, subst, ⊎_elim}
use Rattle.std.specs.Prelude.{◌⊎◌, ◌||◌, nat_eq, if◌then◌else◌}
use Rattle.std.specs.List.{list_all, find}
use Rattle.std.proofs.lemmas.Bool.{both_ways, and_from, eq-eqb, eqb-true}
use Rattle.gm_value.specs.Bag.{IsIn}
use Rattle.gm_value.specs.declared.reductions.Reduce.{Reduce}
use Rattle.gm_value.specs.declared.reductions.Reduce.TheVariants as reduce
use Rattle.gm_ast.specs.Races.{reduce_eq, variables_eq}
use Rattle.gm_forms.proofs.CutLaws.{apart-out}
use Rattle.gm_forms.proofs.Named.{both-true}
use Rattle.gm_forms.specs.Sharing.{disjoint}
use Rattle.gm_typed_stores.specs.Values.{Each}
use Rattle.gm_image.specs.Folds.{Reduction, same_reduce, same_numbers, has_slot, same_as_first, is_the_one}
use Rattle.gm_image.specs.Parts.{is_among}
use Rattle.gm_lowering.specs.Layouts.{rank}
use Rattle.gm_lowering_master.proofs.Ranks.{rank-apart}
use Rattle.gm_sound_lowering.proofs.Leaves.{each-join}
use Rattle.gm_sound_lowering.proofs.Rowwise.{all-mapped}
use Rattle.gm_sound_lowering.proofs.Reductions.{IsRanked}

-- a reduction to variables
pub record Combined : Type 0 where
  pub reduce : Reduce
  pub variables : List ℕ

-- two reductions have no variable in common, or do the same
abbrev pub Agree : Combined → Combined → Type 0
Agree a b = (disjoint a.variables b.variables ≡ true) ⊎ ((reduce_eq a.reduce b.reduce ≡ true) × (variables_eq a.variables b.variables ≡ true))

-- each of some reductions agrees with those behind it
abbrev pub AllAgree : List Combined → Type 0
AllAgree [] = Unit {0}
AllAgree (a ∷ rest) = Each (Agree a) rest × AllAgree rest

same-reduces : (a b : Reduce) → reduce_eq a b ≡ true → same_reduce a b ≡ true
same-reduces reduce.Sum reduce.Sum h = refl
same-reduces reduce.Product reduce.Product h = refl
same-reduces reduce.Min reduce.Min h = refl
same-reduces reduce.Max reduce.Max h = refl
same-reduces reduce.And reduce.And h = refl
same-reduces reduce.Or reduce.Or h = refl
same-reduces reduce.Sum reduce.Product h = absurd (both_ways false refl h)
same-reduces reduce.Sum reduce.Min h = absurd (both_ways false refl h)
same-reduces reduce.Sum reduce.Max h = absurd (both_ways false refl h)
same-reduces reduce.Sum reduce.And h = absurd (both_ways false refl h)
same-reduces reduce.Sum reduce.Or h = absurd (both_ways false refl h)
same-reduces reduce.Product reduce.Sum h = absurd (both_ways false refl h)
same-reduces reduce.Product reduce.Min h = absurd (both_ways false refl h)
same-reduces reduce.Product reduce.Max h = absurd (both_ways false refl h)
same-reduces reduce.Product reduce.And h = absurd (both_ways false refl h)
same-reduces reduce.Product reduce.Or h = absurd (both_ways false refl h)
same-reduces reduce.Min reduce.Sum h = absurd (both_ways false refl h)
same-reduces reduce.Min reduce.Product h = absurd (both_ways false refl h)
same-reduces reduce.Min reduce.Max h = absurd (both_ways false refl h)
same-reduces reduce.Min reduce.And h = absurd (both_ways false refl h)
same-reduces reduce.Min reduce.Or h = absurd (both_ways false refl h)
same-reduces reduce.Max reduce.Sum h = absurd (both_ways false refl h)
same-reduces reduce.Max reduce.Product h = absurd (both_ways false refl h)
same-reduces reduce.Max reduce.Min h = absurd (both_ways false refl h)
same-reduces reduce.Max reduce.And h = absurd (both_ways false refl h)
same-reduces reduce.Max reduce.Or h = absurd (both_ways false refl h)
same-reduces reduce.And reduce.Sum h = absurd (both_ways false refl h)
same-reduces reduce.And reduce.Product h = absurd (both_ways false refl h)
same-reduces reduce.And reduce.Min h = absurd (both_ways false refl h)
same-reduces reduce.And reduce.Max h = absurd (both_ways false refl h)
same-reduces reduce.And reduce.Or h = absurd (both_ways false refl h)
same-reduces reduce.Or reduce.Sum h = absurd (both_ways false refl h)
same-reduces reduce.Or reduce.Product h = absurd (both_ways false refl h)
same-reduces reduce.Or reduce.Min h = absurd (both_ways false refl h)
same-reduces reduce.Or reduce.Max h = absurd (both_ways false refl h)
same-reduces reduce.Or reduce.And h = absurd (both_ways false refl h)

-- ---- by the ranks of variables

module _ (test : ℕ → Bool) (n : ℕ) where
  -- a reduction with the slots of its variables
  abbrev pub slotted : Combined → Reduction
  slotted a = record { reduce = a.reduce; slots = map (rank test) a.variables }

  -- the variables of a reduction have ranks of their own
  abbrev pub AreRanked : Combined → Type 0
  AreRanked a = Each (IsRanked test n) a.variables

  same-slots : (xs ys : List ℕ) → variables_eq xs ys ≡ true → same_numbers (map (rank test) xs) (map (rank test) ys) ≡ true
  same-slots [] [] h = refl
  same-slots [] (y ∷ ys) h = absurd (both_ways false refl h)
  same-slots (x ∷ xs) [] h = absurd (both_ways false refl h)
  same-slots (x ∷ xs) (y ∷ ys) h =
      let b = both-true (nat_eq x y) (variables_eq xs ys) h in
      and_from (nat_eq (rank test x) (rank test y)) (same_numbers (map (rank test) xs) (map (rank test) ys)) (eq-eqb (rank test x) (rank test y) (ap (rank test) (eqb-true x y b.0))) (same-slots xs ys b.1)

  -- a variable whose rank is among those of some is one of them
  among-in : (x : ℕ) (ys : List ℕ) → IsRanked test n x → Each (IsRanked test n) ys → is_among (rank test x) (map (rank test) ys) ≡ true → IsIn x ys
  among-in x [] h k e = absurd (both_ways false refl e)
  among-in x (y ∷ ys) h k e = by (among-in x ys h k.1) (nat_eq (rank test y) (rank test x)) refl e where
    by : (is_among (rank test x) (map (rank test) ys) ≡ true → IsIn x ys) → (b : Bool) → nat_eq (rank test y) (rank test x) ≡ b → b || is_among (rank test x) (map (rank test) ys) ≡ true → IsIn x (y ∷ ys)
    by rest true f e = inl (sym (rank-apart test n y x k.0.0 h.0 k.0.1 h.1 (eqb-true (rank test y) (rank test x) f)))
    by rest false f e = inr (rest e)

  all-where : (g : ℕ → Bool) (xs : List ℕ) → ((x : ℕ) → IsIn x xs → g x ≡ true) → list_all g xs ≡ true
  all-where g [] h = refl
  all-where g (x ∷ xs) h = and_from (g x) (list_all g xs) (h x (inl refl)) (all-where g xs (λ y i. h y (inr i)))

  ranked-in : (xs : List ℕ) (x : ℕ) → Each (IsRanked test n) xs → IsIn x xs → IsRanked test n x
  ranked-in [] x h i = absurd i
  ranked-in (y ∷ ys) x h i = ⊎_elim (λ (e : x ≡ y). subst (IsRanked test n) (sym e) h.0) (λ (j : IsIn x ys). ranked-in ys x h.1 j) i

  -- the first reduction that has a slot is the same as one that agrees with all
  one-slot : (x : ℕ) (r : Combined) (before : List Combined) → IsIn x r.variables → AreRanked r → Each AreRanked before → Each (λ a. Agree a r) before
      → same_as_first (slotted r) (find (has_slot (rank test x)) (map slotted before)) ≡ true
  one-slot x r [] i k h a = refl
  one-slot x r (b ∷ before) i k h a = by (one-slot x r before i k h.1 a.1) (has_slot (rank test x) (slotted b)) refl where
    by : same_as_first (slotted r) (find (has_slot (rank test x)) (map slotted before)) ≡ true → (c : Bool) → has_slot (rank test x) (slotted b) ≡ c
        → same_as_first (slotted r) (if c then Some (slotted b) else find (has_slot (rank test x)) (map slotted before)) ≡ true
    by rest true e =
        ⊎_elim (λ (d : disjoint b.variables r.variables ≡ true). absurd (apart-out b.variables r.variables x d (among-in x b.variables (ranked-in r.variables x k i) h.0 e) i))
        (λ (d : (reduce_eq b.reduce r.reduce ≡ true) × (variables_eq b.variables r.variables ≡ true)).
        and_from (same_reduce b.reduce r.reduce) (same_numbers (map (rank test) b.variables) (map (rank test) r.variables)) (same-reduces b.reduce r.reduce d.0) (same-slots b.variables r.variables d.1)) a.0
    by rest false e = rest

  is-one : (r : Combined) (before : List Combined) → AreRanked r → Each AreRanked before → Each (λ a. Agree a r) before → is_the_one (map slotted before) (slotted r) ≡ true
  is-one r before k h a =
      all-mapped (λ i. same_as_first (slotted r) (find (has_slot i) (map slotted before))) (rank test) r.variables
      (all-where (λ x. same_as_first (slotted r) (find (has_slot (rank test x)) (map slotted before))) r.variables (λ x i. one-slot x r before i k h a))

-- each of some reductions is the one by which its slots were reduced first
abbrev pub OneWay : List Reduction → List Reduction → Type 0
OneWay before [] = Unit {0}
OneWay before (r ∷ rs) = (is_the_one before r ≡ true) × OneWay (before ++ r ∷ []) rs

module _ (test : ℕ → Bool) (n : ℕ) where
  heads : (r : Combined) (rest before : List Combined) → Each (λ a. Each (Agree a) (r ∷ rest)) before → Each (λ a. Agree a r) before
  heads r rest [] h = tt
  heads r rest (b ∷ before) h = (h.0.0, heads r rest before h.1)

  tails : (r : Combined) (rest before : List Combined) → Each (λ a. Each (Agree a) (r ∷ rest)) before → Each (λ a. Each (Agree a) rest) before
  tails r rest [] h = tt
  tails r rest (b ∷ before) h = (h.0.1, tails r rest before h.1)

  mapped-last : (before : List Combined) (r : Combined) → map (slotted test n) (before ++ r ∷ []) ≡ map (slotted test n) before ++ slotted test n r ∷ []
  mapped-last [] r = refl
  mapped-last (b ∷ before) r = ap (λ xs. slotted test n b ∷ xs) (mapped-last before r)

  -- so reductions that agree go one way
  pub agree-one-way : (before rest : List Combined) → Each (AreRanked test n) before → Each (AreRanked test n) rest → Each (λ a. Each (Agree a) rest) before → AllAgree rest
      → OneWay (map (slotted test n) before) (map (slotted test n) rest)
  agree-one-way before [] h k a all = tt
  agree-one-way before (r ∷ rest) h k a all = (
    is-one test n r before k.0 h (heads r rest before a),
    subst (λ xs. OneWay xs (map (slotted test n) rest)) (mapped-last before r)
        (agree-one-way (before ++ r ∷ []) rest (each-join (AreRanked test n) before (r ∷ []) h (k.0, tt)) k.1
        (each-join (λ a. Each (Agree a) rest) before (r ∷ []) (tails r rest before a) (all.0, tt)) all.1),
  )
