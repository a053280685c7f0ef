-- The reductions of a program fit the slots of their targets.
use Rattle.std.proofs.Common.{◌≡◌, ◌<◌, ℕ, Bool, true, false, Option, Some, List, [], ◌∷◌, map, length, refl, ap, ◌∙◌}
use Rattle.std.specs.Prelude.{◌&&◌, not, nat_eq, slice_get}
use Rattle.std.proofs.lemmas.Bool.{both_ways, and_from, eq-eqb, ne_eqb, or_from, or_parts, not-true}
use Rattle.gm_value.specs.declared.values.VType.{VType}
use Rattle.gm_value.specs.declared.reductions.Reduce.{Reduce}
use Rattle.gm_value.specs.declared.reductions.Reduce.TheVariants as reduce
use Rattle.gm_value.specs.Operations.{is_numeric}
use Rattle.gm_value.specs.Reductions.{reduces}
use Rattle.gm_ast.specs.declared.tree.Declaration.{Declaration}
use Rattle.gm_ast.specs.declared.tree.Target.{Target}
use Rattle.gm_ast.specs.declared.tree.Target.TheVariants as T
use Rattle.gm_ast.specs.Program.{Program}
use Rattle.gm_ast.specs.Ways.{is_in}
use Rattle.gm_forms.proofs.Named.{both-true}
use Rattle.gm_forms.specs.Sharing.{are_distinct, variables_of}
use Rattle.gm_forms.specs.Typing.{target_type, keeps_tuples, fits_targets}
use Rattle.gm_typed_stores.specs.Values.{Each}
use Rattle.gm_image.specs.Fits.{type_holds, is_extreme, differ_after, all_differ, reduction_fits}
use Rattle.gm_image.specs.Parts.{slots_of, is_among}
use Rattle.gm_image.specs.Term.{Term}
use Rattle.gm_lowering.specs.Bodies.{slot_number, image_targets}
use Rattle.gm_lowering.specs.Layouts.{Layout, layout, rank, tested, is_global, has_field}
use Rattle.gm_lowering.specs.Lowered.{lowered}
use Rattle.gm_lowering_master.proofs.Ranks.{rank-apart, field-declared}
use Rattle.gm_sound_lowering.specs.Types.{IsTerm}
use Rattle.gm_sound_lowering.proofs.Lines.{TargetIs}

-- ---- numbers that differ have ranks that differ

abbrev pub Apart : List ℕ → ℕ → Type 0
Apart [] x = Unit {0}
Apart (y ∷ ys) x = (y ≡ x → ⊥) × Apart ys x

module _ (test : ℕ → Bool) (n : ℕ) where
  -- a number that has a rank of its own
  abbrev pub IsRanked : ℕ → Type 0
  IsRanked x = (x < n) × (test x ≡ true)

  pub not-among : (x : ℕ) (before : List ℕ) → IsRanked x → Each IsRanked before → Apart before x → is_among (rank test x) (map (rank test) before) ≡ false
  not-among x [] h k a = refl
  not-among x (y ∷ ys) h k a =
      or_from (nat_eq (rank test y) (rank test x)) (is_among (rank test x) (map (rank test) ys))
      (ne_eqb (rank test y) (rank test x) (λ e. a.0 (rank-apart test n y x k.0.0 h.0 k.0.1 h.1 e))) (not-among x ys h k.1 a.1)

  not-in : (x : ℕ) (xs : List ℕ) → is_in xs x ≡ false → Each (λ y. x ≡ y → ⊥) xs
  not-in x [] h = tt
  not-in x (y ∷ ys) h =
      let q = or_parts (nat_eq x y) (is_in ys x) h in ((λ e. both_ways (nat_eq x y) q.0 (eq-eqb x y e)), not-in x ys q.1)

  further : (x : ℕ) (before xs : List ℕ) → Each (Apart before) xs → Each (λ y. x ≡ y → ⊥) xs → Each (Apart (x ∷ before)) xs
  further x before [] h k = tt
  further x before (y ∷ ys) h k = ((k.0, h.0), further x before ys h.1 k.1)

  ranks-differ : (before xs : List ℕ) → Each IsRanked before → Each IsRanked xs → Each (Apart before) xs → are_distinct xs ≡ true → differ_after (map (rank test) before) (map (rank test) xs) ≡ true
  ranks-differ before [] h k a d = refl
  ranks-differ before (x ∷ xs) h k a d =
      let q = both-true (not (is_in xs x)) (are_distinct xs) d in
      and_from (not (is_among (rank test x) (map (rank test) before))) (differ_after (rank test x ∷ map (rank test) before) (map (rank test) xs))
      (ap not (not-among x before k.0 h a.0))
      (ranks-differ (x ∷ before) xs (k.0, h) k.1 (further x before xs a.1 (not-in x xs (not-true (is_in xs x) q.0))) q.1)

  none-before : (xs : List ℕ) → Each (Apart []) xs
  none-before [] = tt
  none-before (x ∷ xs) = (tt, none-before xs)

  pub all-ranks-differ : (xs : List ℕ) → Each IsRanked xs → are_distinct xs ≡ true → all_differ (map (rank test) xs) ≡ true
  all-ranks-differ xs h d = ranks-differ [] xs tt h (none-before xs) d

extreme-same : (r : Reduce) → keeps_tuples r ≡ true → is_extreme r ≡ true
extreme-same reduce.Min h = refl
extreme-same reduce.Max h = refl
extreme-same reduce.Sum h = absurd (both_ways false refl h)
extreme-same reduce.Product h = absurd (both_ways false refl h)
extreme-same reduce.And h = absurd (both_ways false refl h)
extreme-same reduce.Or h = absurd (both_ways false refl h)

-- ---- the targets of a reduction

module _ (p : Program) (kind : Option ℕ) (stands : Term → Bool) (types : List VType) where
  abbrev ds : List Declaration
  ds = p.declarations

  abbrev c : Layout
  c = layout p

  -- targets have slots of their types, and values of them
  abbrev pub AreTargets : List Target → List Term → Type 0
  AreTargets [] [] = Unit {0}
  AreTargets (t ∷ ts) (a ∷ more) = (slice_get types (slot_number c t) ≡ Some (target_type ds t)) × IsTerm (lowered p) kind stands (target_type ds t) a × AreTargets ts more
  AreTargets [] (a ∷ more) = ⊥
  AreTargets (t ∷ ts) [] = ⊥

  pub targets-are : (ts : List Target) (values : List Term) → AreTargets ts values → Each (TargetIs (lowered p) kind stands types) (image_targets c ts values)
  targets-are [] [] h = tt
  targets-are (t ∷ ts) (a ∷ more) h = (record { vtype = target_type ds t; slot = h.0; value = h.1 }, targets-are ts more h.2)
  targets-are [] (a ∷ more) h = absurd h
  targets-are (t ∷ ts) [] h = absurd h

  slots-are : (ts : List Target) (values : List Term) → AreTargets ts values → slots_of (image_targets c ts values) ≡ map (slot_number c) ts
  slots-are [] [] h = refl
  slots-are (t ∷ ts) (a ∷ more) h = ap (λ xs. slot_number c t ∷ xs) (slots-are ts more h.2)
  slots-are [] (a ∷ more) h = absurd h
  slots-are (t ∷ ts) [] h = absurd h

  -- a reduction that fits its targets fits their slots, where these differ
  pub reduction-is : (r : Reduce) (ts : List Target) (values : List Term) → fits_targets ds r ts ≡ true → AreTargets ts values → all_differ (map (slot_number c) ts) ≡ true
      → reduction_fits types r (image_targets c ts values) ≡ true
  reduction-is r [] values f h d = absurd (both_ways false refl f)
  reduction-is r (t ∷ ts) [] f h d = absurd h
  reduction-is r (t ∷ []) (a ∷ []) f h d = ap (type_holds (reduces r)) h.0 ∙ f
  reduction-is r (t ∷ []) (a ∷ (b ∷ more)) f h d = absurd h.2
  reduction-is r (t ∷ (u ∷ ts)) (a ∷ []) f h d = absurd h.2
  reduction-is r (t ∷ (u ∷ ts)) (a ∷ (b ∷ more)) f h d =
      let q = both-true (keeps_tuples r) (is_numeric (target_type ds t)) f in
      and_from (is_extreme r && type_holds is_numeric (slice_get types (slot_number c t))) (all_differ (slots_of (image_targets c (t ∷ (u ∷ ts)) (a ∷ (b ∷ more)))))
      (and_from (is_extreme r) (type_holds is_numeric (slice_get types (slot_number c t))) (extreme-same r q.0) (ap (type_holds is_numeric) h.0 ∙ q.1))
      (ap all_differ (slots-are (t ∷ (u ∷ ts)) (a ∷ (b ∷ more)) h) ∙ d)

-- the slots of scalars of the procedure, and of properties with fields, are ranks
abbrev pub IsScalarSlot : Program → Target → Type 0
IsScalarSlot p (T.Scalar x at) = IsRanked (tested p is_global) (length p.declarations) x
IsScalarSlot p (T.Property x q at) = ⊥

abbrev pub IsPropertySlot : Program → Target → Type 0
IsPropertySlot p (T.Scalar x at) = ⊥
IsPropertySlot p (T.Property x q at) = has_field p q ≡ true

module _ (p : Program) where
  pub scalar-slots : (ts : List Target) → Each (IsScalarSlot p) ts → map (slot_number (layout p)) ts ≡ map (rank (tested p is_global)) (variables_of ts)
  scalar-slots [] h = refl
  scalar-slots (T.Scalar x at ∷ ts) h = ap (λ xs. rank (tested p is_global) x ∷ xs) (scalar-slots ts h.1)
  scalar-slots (T.Property x q at ∷ ts) h = absurd h.0

  pub scalar-ranked : (ts : List Target) → Each (IsScalarSlot p) ts → Each (IsRanked (tested p is_global) (length p.declarations)) (variables_of ts)
  scalar-ranked [] h = tt
  scalar-ranked (T.Scalar x at ∷ ts) h = (h.0, scalar-ranked ts h.1)
  scalar-ranked (T.Property x q at ∷ ts) h = absurd h.0

  pub scalars-differ : (ts : List Target) → Each (IsScalarSlot p) ts → are_distinct (variables_of ts) ≡ true → all_differ (map (slot_number (layout p)) ts) ≡ true
  scalars-differ ts h d = ap all_differ (scalar-slots ts h) ∙ all-ranks-differ (tested p is_global) (length p.declarations) (variables_of ts) (scalar-ranked ts h) d

  pub property-slots : (ts : List Target) → Each (IsPropertySlot p) ts → map (slot_number (layout p)) ts ≡ map (rank (has_field p)) (variables_of ts)
  property-slots [] h = refl
  property-slots (T.Property x q at ∷ ts) h = ap (λ xs. rank (has_field p) q ∷ xs) (property-slots ts h.1)
  property-slots (T.Scalar x at ∷ ts) h = absurd h.0

  pub property-ranked : (ts : List Target) → Each (IsPropertySlot p) ts → Each (IsRanked (has_field p) (length p.declarations)) (variables_of ts)
  property-ranked [] h = tt
  property-ranked (T.Property x q at ∷ ts) h = ((field-declared p q h.0, h.0), property-ranked ts h.1)
  property-ranked (T.Scalar x at ∷ ts) h = absurd h.0

  pub properties-differ : (ts : List Target) → Each (IsPropertySlot p) ts → are_distinct (variables_of ts) ≡ true → all_differ (map (slot_number (layout p)) ts) ≡ true
  properties-differ ts h d = ap all_differ (property-slots ts h) ∙ all-ranks-differ (has_field p) (length p.declarations) (variables_of ts) (property-ranked ts h) d
