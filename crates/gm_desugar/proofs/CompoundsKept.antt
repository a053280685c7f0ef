-- A reduction that is done at once, and the assignment in its place.
use Rattle.std.proofs.Common.{◌≡◌, arith, ℕ, zero, suc, Option, Bool, true, false, cond, List, [], ◌∷◌, ◌++◌, append-nil, refl, sym, ap, subst, ◌∙◌, Some, ⊎_elim, inl, inr}
use Rattle.std.specs.Prelude.{◌&&◌, ◌||◌, not, nat_eq, nat_lt, nat_le}
use Rattle.std.specs.List.{list_all}
use Rattle.std.proofs.lemmas.Bool.{both_ways}
use Rattle.std.proofs.lemmas.Bool.Decides.{nat_tests}
use Rattle.gm_base.specs.declared.places.Place.{Place}
use Rattle.gm_value.specs.declared.values.VType.{VType}
use Rattle.gm_value.specs.declared.values.VType.TheVariants.{I32, I64, Flag, Node}
use Rattle.gm_value.specs.declared.operations.Op2.TheVariants.{Add, Mul}
use Rattle.gm_value.specs.declared.reductions.Reduce.{Reduce}
use Rattle.gm_value.specs.declared.reductions.Reduce.TheVariants.{Sum, Product, Min, Max, And, Or}
use Rattle.gm_value.specs.Bag.{IsIn}
use Rattle.gm_value.specs.Operations.{is_numeric, is_flag, fits2, type2}
use Rattle.gm_value.specs.Reductions.{reduces}
use Rattle.gm_ast.specs.declared.tree.Declaration.{Declaration}
use Rattle.gm_ast.specs.declared.tree.Key.{Key}
use Rattle.gm_ast.specs.declared.tree.Target.{Target}
use Rattle.gm_ast.specs.declared.tree.Target.TheVariants as T
use Rattle.gm_ast.specs.declared.tree.TotalKey.{TotalKey}
use Rattle.gm_ast.specs.Keys as K
use Rattle.gm_ast.specs.Keys.{fault_lt, all_before}
use Rattle.gm_ast.specs.declared.tree.Sort.TheVariants as Sorts
use Rattle.gm_ast.specs.Names.{is}
use Rattle.gm_ast.specs.Program.{Expr, Stmt, Assign, Combine}
use Rattle.gm_model.specs.Graphs.{NumberedGraph}
use Rattle.gm_semantics.specs.Iterations.{Loop, Outermost, AtEdge, Iteration, target_value, does}
use Rattle.gm_semantics.specs.Statements.{Run, sequential}
use Rattle.gm_forms.specs.Forms.{depth_at, is_within, is_flat}
use Rattle.gm_forms.specs.Uses.{Written, Told, Use, suits, uses_in, uses_of_target, uses_of}
use Rattle.gm_forms.specs.Order.{lie_before, rest_in, hoisted_in, hoists_in_order, faults_in, in_order, faults_in_all, target_faults, targets_faults, faults_of, body_in_order, folds_in_order}
use Rattle.gm_forms.specs.Sharing.{Read, reads_in, told_in, with_reads, sights_in, sights_in_all, is_at_once, are_at_once, sights_of_target, sights_at_target, sights_by, sights_of, written_by, reduced_by, level_reads_in, level_reads_of}
use Rattle.gm_forms.specs.Typing.{type_in, type_if, by_one, is_type, has_type, target_type, all_have_types, keeps_tuples, fits_targets, is_typed_in}
use Rattle.gm_forms.specs.Ready.{is_outer_expr, is_phase_expr, is_at_depth, is_inner_code, is_outer_code}
use Rattle.gm_forms.proofs.Named.{both-true, all-append}
use Rattle.gm_forms.proofs.Weaker.{and-true}
use Rattle.gm_forms.proofs.Doings.{in-left, in-right, in-either}
use Rattle.gm_forms.proofs.CutLaws.{lies-in}
use Rattle.gm_desugar.specs.Groups.{has_no_groups}
use Rattle.gm_desugar.specs.Compounds.{operated, assignment_of, has_no_compounds_in, has_no_compounds}
use Rattle.gm_desugar.proofs.Assignments.{others_open}
use Rattle.gm_desugar.proofs.CompoundsLaws.{sequential-assignment, does-assignment, all-once, own-stays}
use Rattle.gm_desugar.proofs.Fewer.{Fewer, FewerSights, lie-from, nothing-before, FewerReads, reads-both}
use Rattle.gm_desugar.proofs.Replacing.{append-true, use-as, is-type, loop_at, mode_at, ForBody, ForPhase, body-same, phase-same}

-- what an operator's value reads, may fault by, and asks
uses-operated : (r : Reduce) (at : Place) (a b : Expr) → uses_in (operated r at a b) ≡ uses_in a ++ uses_in b
uses-operated Sum at a b = refl
uses-operated Product at a b = refl
uses-operated Min at a b = refl
uses-operated Max at a b = refl
uses-operated And at a b = refl
uses-operated Or at a b = refl

away-operated : (r : Reduce) (at : Place) (a b : Expr) → level_reads_in (operated r at a b) ≡ level_reads_in a ++ level_reads_in b
away-operated Sum at a b = refl
away-operated Product at a b = refl
away-operated Min at a b = refl
away-operated Max at a b = refl
away-operated And at a b = refl
away-operated Or at a b = refl

away-target : (t : Target) → level_reads_in (target_value t) ≡ (sights_at_target t).properties
away-target (T.Scalar x at) = refl
away-target (T.Property x p at) = refl

hoisted-operated : (r : Reduce) (at : Place) (a b : Expr) → hoisted_in (operated r at a b) ≡ hoisted_in a ++ hoisted_in b
hoisted-operated Sum at a b = refl
hoisted-operated Product at a b = refl
hoisted-operated Min at a b = refl
hoisted-operated Max at a b = refl
hoisted-operated And at a b = refl
hoisted-operated Or at a b = refl

reads-operated : (r : Reduce) (at : Place) (a b : Expr) → reads_in (operated r at a b) ≡ reads_in a ++ reads_in b
reads-operated Sum at a b = refl
reads-operated Product at a b = refl
reads-operated Min at a b = refl
reads-operated Max at a b = refl
reads-operated And at a b = refl
reads-operated Or at a b = refl

told-operated : (r : Reduce) (at : Place) (a b : Expr) → told_in (operated r at a b) ≡ told_in a ++ told_in b
told-operated Sum at a b = refl
told-operated Product at a b = refl
told-operated Min at a b = refl
told-operated Max at a b = refl
told-operated And at a b = refl
told-operated Or at a b = refl

hoists-operated : (r : Reduce) (at : Place) (a b : Expr) → hoists_in_order a && (hoists_in_order b && lie_before (hoisted_in a) (hoisted_in b)) ≡ true → hoists_in_order (operated r at a b) ≡ true
hoists-operated Sum at a b h = h
hoists-operated Product at a b h = h
hoists-operated Min at a b h = h
hoists-operated Max at a b h = h
hoists-operated And at a b h = h
hoists-operated Or at a b h = h

folds-operated : (r : Reduce) (at : Place) (a b : Expr) → folds_in_order a && folds_in_order b ≡ true → folds_in_order (operated r at a b) ≡ true
folds-operated Sum at a b h = h
folds-operated Product at a b h = h
folds-operated Min at a b h = h
folds-operated Max at a b h = h
folds-operated And at a b h = h
folds-operated Or at a b h = h

flat-operated : (its : List ℕ) (edge : Bool) (r : Reduce) (at : Place) (a b : Expr) → is_flat its edge a && is_flat its edge b ≡ true → is_flat its edge (operated r at a b) ≡ true
flat-operated its edge Sum at a b h = h
flat-operated its edge Product at a b h = h
flat-operated its edge Min at a b h = h
flat-operated its edge Max at a b h = h
flat-operated its edge And at a b h = h
flat-operated its edge Or at a b h = h

outer-operated : (levels : Bool) (n : ℕ) (r : Reduce) (at : Place) (a b : Expr) → is_outer_expr levels n a && is_outer_expr levels n b ≡ true → is_outer_expr levels n (operated r at a b) ≡ true
outer-operated levels n Sum at a b h = h
outer-operated levels n Product at a b h = h
outer-operated levels n Min at a b h = h
outer-operated levels n Max at a b h = h
outer-operated levels n And at a b h = h
outer-operated levels n Or at a b h = h

phase-operated : (r : Reduce) (at : Place) (a b : Expr) → is_phase_expr a && is_phase_expr b ≡ true → is_phase_expr (operated r at a b) ≡ true
phase-operated Sum at a b h = h
phase-operated Product at a b h = h
phase-operated Min at a b h = h
phase-operated Max at a b h = h
phase-operated And at a b h = h
phase-operated Or at a b h = h

rest-operated : (r : Reduce) (at : Place) (a b : Expr) (k : Key) (f : K.Fault) → IsIn f (rest_in (operated r at a b) k) → IsIn f (record { key = k; place = at } ∷ (rest_in a k ++ rest_in b k))
rest-operated Sum at a b k f i = i
rest-operated Product at a b k f i = i
rest-operated Min at a b k f i = inr i
rest-operated Max at a b k f i = inr i
rest-operated And at a b k f i = inr i
rest-operated Or at a b k f i = inr i

-- what a target holds
value-hoisted : (t : Target) → hoisted_in (target_value t) ≡ []
value-hoisted (T.Scalar x at) = refl
value-hoisted (T.Property x p at) = refl

value-rest : (t : Target) (k : Key) → rest_in (target_value t) k ≡ []
value-rest (T.Scalar x at) k = refl
value-rest (T.Property x p at) k = refl

value-hoists : (t : Target) → hoists_in_order (target_value t) ≡ true
value-hoists (T.Scalar x at) = refl
value-hoists (T.Property x p at) = refl

value-folds : (t : Target) → folds_in_order (target_value t) ≡ true
value-folds (T.Scalar x at) = refl
value-folds (T.Property x p at) = refl

value-reads : (t : Target) → reads_in (target_value t) ≡ (sights_at_target t).properties
value-reads (T.Scalar x at) = refl
value-reads (T.Property x p at) = refl

value-told : (t : Target) → told_in (target_value t) ≡ (sights_at_target t).scalars
value-told (T.Scalar x at) = refl
value-told (T.Property x p at) = refl

value-phase : (t : Target) → is_phase_expr (target_value t) ≡ true
value-phase (T.Scalar x at) = refl
value-phase (T.Property x p at) = refl

value-type : (ds : List Declaration) (t : Target) → type_in ds (target_value t) ≡ Some (target_type ds t)
value-type ds (T.Scalar x at) = refl
value-type ds (T.Property x p at) = refl

number-added : (t : VType) → is_numeric t ≡ true → is_type t (type_if (fits2 Add t t) (type2 Add t)) ≡ true
number-added I32 h = refl
number-added I64 h = refl
number-added Flag h = absurd (both_ways false refl h)
number-added Node h = absurd (both_ways false refl h)

number-multiplied : (t : VType) → is_numeric t ≡ true → is_type t (type_if (fits2 Mul t t) (type2 Mul t)) ≡ true
number-multiplied I32 h = refl
number-multiplied I64 h = refl
number-multiplied Flag h = absurd (both_ways false refl h)
number-multiplied Node h = absurd (both_ways false refl h)

flags-joined : (t : VType) → is_flag t ≡ true → is_type t (type_if (is_type Flag (Some t) && is_type Flag (Some t)) Flag) ≡ true
flags-joined I32 h = absurd (both_ways false refl h)
flags-joined I64 h = absurd (both_ways false refl h)
flags-joined Flag h = refl
flags-joined Node h = absurd (both_ways false refl h)

typed-operated : (ds : List Declaration) (r : Reduce) (at : Place) (a b : Expr) (t : VType) → keeps_tuples r ≡ false → reduces r t ≡ true → type_in ds a ≡ Some t → type_in ds b ≡ Some t → has_type ds t (operated r at a b) ≡ true
typed-operated ds Sum at a b t k h p q =
    ap (λ x. is_type t (by_one x (λ u. by_one (type_in ds b) (λ v. type_if (fits2 Add u v) (type2 Add u))))) p ∙ (ap (λ x. is_type t (by_one x (λ v. type_if (fits2 Add t v) (type2 Add t)))) q ∙ number-added t h)
typed-operated ds Product at a b t k h p q =
    ap (λ x. is_type t (by_one x (λ u. by_one (type_in ds b) (λ v. type_if (fits2 Mul u v) (type2 Mul u))))) p ∙ (ap (λ x. is_type t (by_one x (λ v. type_if (fits2 Mul t v) (type2 Mul t)))) q ∙ number-multiplied t h)
typed-operated ds Min at a b t k h p q = absurd (both_ways true k refl)
typed-operated ds Max at a b t k h p q = absurd (both_ways true k refl)
typed-operated ds And at a b t k h p q =
    ap (λ x. is_type t (type_if (is_type Flag x && is_type Flag (type_in ds b)) Flag)) p ∙ (ap (λ x. is_type t (type_if (is_type Flag (Some t) && is_type Flag x) Flag)) q ∙ flags-joined t h)
typed-operated ds Or at a b t k h p q =
    ap (λ x. is_type t (type_if (is_type Flag x && is_type Flag (type_in ds b)) Flag)) p ∙ (ap (λ x. is_type t (type_if (is_type Flag (Some t) && is_type Flag x) Flag)) q ∙ flags-joined t h)

owner-held : (t : Target) (x : ℕ) → IsIn x (sights_of_target t).scalars → IsIn x (sights_at_target t).scalars
owner-held (T.Scalar y at) x i = absurd i
owner-held (T.Property y p at) x i = i

no-property : (t : Target) (r : Read) → IsIn r (sights_of_target t).properties → ⊥
no-property (T.Scalar y at) r i = i
no-property (T.Property y p at) r i = i

module _ (ds : List Declaration) where
  abbrev Suit : List Use → Type 0
  Suit us = list_all (suits ds) us ≡ true

  value-suits : (t : Target) → Suit (uses_of_target t) → Suit (uses_in (target_value t))
  value-suits (T.Scalar x at) h = use-as ds Written Told x (λ v k. ap (λ b. b || (is Sorts.Iterator v || is Sorts.Graph v)) k) h
  value-suits (T.Property x p at) h = h

  -- what is done at once in an inner body is a local of it; in an outer body a local of it or a property of its node
  inner-depth : (x : ℕ) → nat_lt 1 (depth_at ds x) ≡ true → nat_le (depth_at ds x) 2 ≡ true → nat_eq (depth_at ds x) 2 ≡ true
  inner-depth x h k = by (depth_at ds x) h k
    where
      by : (d : ℕ) → nat_lt 1 d ≡ true → nat_le d 2 ≡ true → nat_eq d 2 ≡ true
      by d h k = grind (arith, nat_tests)

  outer-depth : (x : ℕ) → not (nat_eq (depth_at ds x) 0) ≡ true → nat_le (depth_at ds x) 1 ≡ true → nat_eq (depth_at ds x) 1 ≡ true
  outer-depth x h k = by (depth_at ds x) h k
    where
      by : (d : ℕ) → not (nat_eq d 0) ≡ true → nat_le d 1 ≡ true → nat_eq d 1 ≡ true
      by zero h k = absurd (both_ways false refl h)
      by (suc zero) h k = refl
      by (suc (suc d)) h k = absurd (grind (arith, nat_tests))

  inner-target : (n : ℕ) (its : List ℕ) (k : Key) (t : Target) (v e : Expr) → is_at_once ds n true t ≡ true → is_within ds 2 t ≡ true → (is_flat its true (target_value t) ≡ true → is_flat its true v ≡ true) → is_inner_code ds its (Assign k t v) ≡ true
  inner-target n its k (T.Scalar x at) v e h w f = and-true (nat_eq (depth_at ds x) 2) (is_flat its true v) (inner-depth x h w) (f refl)
  inner-target n its k (T.Property x p at) v e h w f = absurd (both_ways false refl h)

  outer-target : (n : ℕ) (t : Target) → is_at_once ds n false t ≡ true → is_within ds 1 t ≡ true → is_at_depth ds 1 n t ≡ true
  outer-target n (T.Scalar x at) h w = outer-depth x h w
  outer-target n (T.Property x p at) h w = h

  value-outer : (levels : Bool) (n : ℕ) (t : Target) → is_at_once ds n false t ≡ true → is_outer_expr levels n (target_value t) ≡ true
  value-outer levels n (T.Scalar x at) h = refl
  value-outer levels n (T.Property x p at) h = ap (λ b. b || false) h

  -- of one target and one value
  module _ (k : Key) (total : TotalKey) (r : Reduce) (t : Target) (e : Expr) where
    abbrev Value : Expr
    Value = operated r total.place (target_value t) e

    abbrev Before : Stmt
    Before = Combine k total r (t ∷ []) (e ∷ [])

    named-one : Suit (uses_of Before) → Suit (uses_of (Assign k t Value))
    named-one h =
        let sides = all-append (suits ds) (uses_of_target t ++ []) (uses_in e ++ []) h in
        let target = all-append (suits ds) (uses_of_target t) [] sides.0 in
        let body = all-append (suits ds) (uses_in e) [] sides.1 in
        append-true (suits ds) (uses_of_target t) (uses_in Value) target.0 (subst Suit (sym (uses-operated r total.place (target_value t) e)) (append-true (suits ds) (uses_in (target_value t)) (uses_in e) (value-suits t target.0) body.0))

    typed-one : keeps_tuples r ≡ false → (res : Option VType) → is_typed_in ds res Before ≡ true → is_typed_in ds res (Assign k t Value) ≡ true
    typed-one picks res h =
        let parts = both-true (has_type ds (target_type ds t) e && true) (reduces r (target_type ds t)) h in
        typed-operated ds r total.place (target_value t) e (target_type ds t) picks parts.1 (value-type ds t) (is-type (target_type ds t) (type_in ds e) (both-true (has_type ds (target_type ds t) e) true parts.0).0)

    hoisted-one : hoisted_in Value ≡ hoisted_in e
    hoisted-one = hoisted-operated r total.place (target_value t) e ∙ ap (λ l. l ++ hoisted_in e) (value-hoisted t)

    abbrev Place_faults : List K.Fault
    Place_faults = record { key = k; place = total.place } ∷ K.total_fault total ∷ []

    module _ (its : List ℕ) where
      fault-target : (f : K.Fault) → IsIn f (target_faults its t k) → IsIn f (faults_of its Before)
      fault-target f i = in-left f (targets_faults its (t ∷ []) k) (faults_in_all (e ∷ []) k ++ (Place_faults)) (in-left f (target_faults its t k) [] i)

      fault-value : (f : K.Fault) → IsIn f (faults_in e k) → IsIn f (faults_of its Before)
      fault-value f i = in-right f (targets_faults its (t ∷ []) k) (faults_in_all (e ∷ []) k ++ (Place_faults)) (in-left f (faults_in_all (e ∷ []) k) (Place_faults) (in-left f (faults_in e k) [] i))

      fault-place : (f : K.Fault) → f ≡ record { key = k; place = total.place } → IsIn f (faults_of its Before)
      fault-place f q = in-right f (targets_faults its (t ∷ []) k) (faults_in_all (e ∷ []) k ++ (Place_faults)) (in-right f (faults_in_all (e ∷ []) k) (Place_faults) (inl q))

      fault-rest : (f : K.Fault) → IsIn f (record { key = k; place = total.place } ∷ (rest_in (target_value t) k ++ rest_in e k)) → IsIn f (faults_of its Before)
      fault-rest f i =
          ⊎_elim (fault-place f) (λ (j : IsIn f (rest_in (target_value t) k ++ rest_in e k)).
          ⊎_elim (λ l. absurd (subst (IsIn f) (value-rest t k) l)) (λ m. fault-value f (in-right f (hoisted_in e) (rest_in e k) m)) (in-either f (rest_in (target_value t) k) (rest_in e k) j)) i

      fewer-one : Fewer (faults_of its (Assign k t Value)) (faults_of its Before)
      fewer-one f i =
          ⊎_elim (fault-target f) (λ (j : IsIn f (hoisted_in Value ++ rest_in Value k)).
          ⊎_elim (λ l. fault-value f (in-left f (hoisted_in e) (rest_in e k) (subst (IsIn f) hoisted-one l))) (λ m. fault-rest f (rest-operated r total.place (target_value t) e k f m)) (in-either f (hoisted_in Value) (rest_in Value k) j))
          (in-either f (target_faults its t k) (faults_in Value k) i)

      order-one : body_in_order its Before ≡ true → body_in_order its (Assign k t Value) ≡ true
      order-one h =
          let parts = both-true (in_order e k && true) (lie_before (hoisted_in e ++ []) (targets_faults its (t ∷ []) k ++ (Place_faults))) h in
          let ordered = both-true (hoists_in_order e) (lie_before (hoisted_in e) (rest_in e k)) (both-true (in_order e k) true parts.0).0 in
          let hoists : hoists_in_order Value ≡ true = hoists-operated r total.place (target_value t) e
          (and-true (hoists_in_order (target_value t)) (hoists_in_order e && lie_before (hoisted_in (target_value t)) (hoisted_in e)) (value-hoists t)
          (and-true (hoists_in_order e) (lie_before (hoisted_in (target_value t)) (hoisted_in e)) ordered.0 (subst (λ l. lie_before l (hoisted_in e) ≡ true) (sym (value-hoisted t)) (nothing-before (hoisted_in e))))) in
          let behind : (f g : K.Fault) → IsIn f (hoisted_in e) → IsIn g (targets_faults its (t ∷ []) k ++ (Place_faults)) → fault_lt f g ≡ true =
          λ f g i j. lies-in (hoisted_in e ++ []) (targets_faults its (t ∷ []) k ++ (Place_faults)) f g parts.1 (in-left f (hoisted_in e) [] i) j in
          let at_target : (f g : K.Fault) → IsIn f (hoisted_in e) → IsIn g (target_faults its t k) → fault_lt f g ≡ true =
          λ f g i j. behind f g i (in-left g (targets_faults its (t ∷ []) k) (Place_faults) (in-left g (target_faults its t k) [] j)) in
          let rest : (f g : K.Fault) → IsIn f (hoisted_in e) → IsIn g (record { key = k; place = total.place } ∷ (rest_in (target_value t) k ++ rest_in e k)) → fault_lt f g ≡ true =
          λ f g i j. ⊎_elim (λ (q : g ≡ record { key = k; place = total.place }). behind f g i (in-right g (targets_faults its (t ∷ []) k) (Place_faults) (inl q)))
          (λ (m : IsIn g (rest_in (target_value t) k ++ rest_in e k)).
          ⊎_elim (λ l. absurd (subst (IsIn g) (value-rest t k) l)) (λ l. lies-in (hoisted_in e) (rest_in e k) f g ordered.1 i l) (in-either g (rest_in (target_value t) k) (rest_in e k) m)) j in
          and-true (in_order Value k) (lie_before (hoisted_in Value) (target_faults its t k))
          (and-true (hoists_in_order Value) (lie_before (hoisted_in Value) (rest_in Value k)) hoists
          (lie-from (hoisted_in Value) (rest_in Value k) (λ f g i j. rest f g (subst (IsIn f) hoisted-one i) (rest-operated r total.place (target_value t) e k g j))))
          (lie-from (hoisted_in Value) (target_faults its t k) (λ f g i j. at_target f g (subst (IsIn f) hoisted-one i) j))

    seen-one : (n : ℕ) (inner : Bool) → are_at_once ds n inner (t ∷ []) ≡ true → FewerSights (sights_of ds n inner (Assign k t Value)) (sights_of ds n inner Before)
    seen-one n inner once =
        let held = sights_at_target t in
        subst (λ b. FewerSights (with_reads (sights_of_target t) (sights_in Value)) (with_reads (sights_by (cond b sights_at_target sights_of_target) (t ∷ [])) (sights_in_all (e ∷ [])))) (sym once) (record {
          properties = λ q i.
              ⊎_elim (λ l. absurd (no-property t q l)) (λ (l : IsIn q (reads_in Value)).
              ⊎_elim (λ m. in-left q (held.properties ++ []) (reads_in e ++ []) (in-left q held.properties [] (subst (IsIn q) (value-reads t) m)))
              (λ m. in-right q (held.properties ++ []) (reads_in e ++ []) (in-left q (reads_in e) [] m))
              (in-either q (reads_in (target_value t)) (reads_in e) (subst (IsIn q) (reads-operated r total.place (target_value t) e) l)))
              (in-either q (sights_of_target t).properties (reads_in Value) i);
          scalars = λ x i.
              ⊎_elim (λ l. in-left x (held.scalars ++ []) (told_in e ++ []) (in-left x held.scalars [] (owner-held t x l))) (λ (l : IsIn x (told_in Value)).
              ⊎_elim (λ m. in-left x (held.scalars ++ []) (told_in e ++ []) (in-left x held.scalars [] (subst (IsIn x) (value-told t) m)))
              (λ m. in-right x (held.scalars ++ []) (told_in e ++ []) (in-left x (told_in e) [] m))
              (in-either x (told_in (target_value t)) (told_in e) (subst (IsIn x) (told-operated r total.place (target_value t) e) l)))
              (in-either x (sights_of_target t).scalars (told_in Value) i);
        })

    inner-one : (n : ℕ) → are_at_once ds n true (t ∷ []) ≡ true → (its : List ℕ) → is_inner_code ds its Before ≡ true → is_inner_code ds its (Assign k t Value) ≡ true
    inner-one n once its h =
        let parts = both-true (is_within ds 2 t && true) (is_flat its true e && true) h in
        inner-target n its k t Value e (both-true (is_at_once ds n true t) true once).0 (both-true (is_within ds 2 t) true parts.0).0
        (λ f. flat-operated its true r total.place (target_value t) e (and-true (is_flat its true (target_value t)) (is_flat its true e) f (both-true (is_flat its true e) true parts.1).0))

    outer-one : (n : ℕ) → are_at_once ds n false (t ∷ []) ≡ true → (levels : Bool) → is_outer_code ds levels n Before ≡ true → is_outer_code ds levels n (Assign k t Value) ≡ true
    outer-one n once levels h =
        let parts = both-true (is_within ds 1 t && true) (is_outer_expr levels n e && true) h in
        let now = both-true (is_at_once ds n false t) true once in
        and-true (is_at_depth ds 1 n t) (is_outer_expr levels n Value) (outer-target n t now.0 (both-true (is_within ds 1 t) true parts.0).0)
        (outer-operated levels n r total.place (target_value t) e (and-true (is_outer_expr levels n (target_value t)) (is_outer_expr levels n e) (value-outer levels n t now.0) (both-true (is_outer_expr levels n e) true parts.1).0))

    opened : keeps_tuples r ≡ false → assignment_of k total r (t ∷ []) (e ∷ []) ≡ Assign k t Value
    opened picks = others_open k total r t e picks

    does-one : keeps_tuples r ≡ false → (n : ℕ) (inner : Bool) → are_at_once ds n inner (t ∷ []) ≡ true → (g : NumberedGraph) (ls : ℕ → Option ℕ) (pushed : ℕ → Bool) (x : ℕ) (it : Iteration) →
        does (Assign k t Value) (mode_at inner x) (loop_at ds n g ls pushed) it ≡ does Before (mode_at inner x) (loop_at ds n g ls pushed) it
    does-one picks n false once g ls pushed x it =
        let loop : Loop = loop_at ds n g ls pushed in
        ap (λ s. does s Outermost loop it) (sym (opened picks)) ∙ does-assignment k total r (t ∷ []) (e ∷ []) Outermost loop it (all-once ds loop (λ y. refl) Outermost (t ∷ []) once)
    does-one picks n true once g ls pushed x it =
        let loop : Loop = loop_at ds n g ls pushed in
        ap (λ s. does s (AtEdge x) loop it) (sym (opened picks)) ∙ does-assignment k total r (t ∷ []) (e ∷ []) (AtEdge x) loop it (all-once ds loop (λ y. refl) (AtEdge x) (t ∷ []) once)

    away-one : (n : ℕ) → are_at_once ds n false (t ∷ []) ≡ true → FewerReads (level_reads_in Value) (level_reads_of ds n Before)
    away-one n once =
        subst (λ b. FewerReads (level_reads_in Value) ((sights_by (cond b sights_at_target sights_of_target) (t ∷ [])).properties ++ (level_reads_in e ++ []))) (sym once)
        (subst (λ rs. FewerReads rs (((sights_at_target t).properties ++ []) ++ (level_reads_in e ++ []))) (sym (away-operated r total.place (target_value t) e))
        (reads-both ((sights_at_target t).properties ++ []) (level_reads_in e ++ []) (level_reads_in (target_value t)) (level_reads_in e) (λ x i. in-left x (sights_at_target t).properties [] (subst (IsIn x) (away-target t) i)) (λ x i. in-left x (level_reads_in e) [] i)))

    -- the assignment in the reduction's place, in a body
    body-one : keeps_tuples r ≡ false → (n : ℕ) (inner : Bool) → are_at_once ds n inner (t ∷ []) ≡ true → ForBody ds n inner Before (Assign k t Value)
    body-one picks n inner once = record {
      same = does-one picks n inner once;
      pushes_same = λ p. sym (ap (λ b. b || false) (own-stays ds n p inner t (both-true (is_at_once ds n inner t) true once).0));
      named = named-one;
      typed = typed-one picks;
      fewer = fewer-one;
      order = order-one;
      seen = seen-one n inner once;
      away = λ o. away-one n (subst (λ b. are_at_once ds n b (t ∷ []) ≡ true) o once);
      reduced_same = sym (ap (λ b. cond b [] (reduced_by ds n total.key.statement r (t ∷ []) ∷ [])) once);
      written_same = sym (ap (λ b. cond b (written_by t ++ []) []) once ∙ append-nil (written_by t));
      deferred_same = refl;
      alike = λ h. refl;
      inners = λ h. refl;
      inner_form = λ i its h. inner-one n (subst (λ b. are_at_once ds n b (t ∷ []) ≡ true) i once) its h;
      outer_form = λ o levels h. outer-one n (subst (λ b. are_at_once ds n b (t ∷ []) ≡ true) o once) levels h;
    }

    -- and in a sequential phase
    phase-one : keeps_tuples r ≡ false → (res : Option VType) → ForPhase ds res Before (Assign k t Value)
    phase-one picks res = record {
      same = λ g bound u.
          let run : Run = record { graph = g; declarations = ds; bound = bound } in
          ap (λ s. sequential s run u) (sym (opened picks)) ∙ sequential-assignment k total r (t ∷ []) (e ∷ []) run u;
      named = named-one;
      typed = typed-one picks res;
      order = λ h. folds-operated r total.place (target_value t) e (and-true (folds_in_order (target_value t)) (folds_in_order e) (value-folds t) (both-true (folds_in_order e) true h).0);
      share = λ h. refl;
      form = λ h.
          let parts = both-true (is_within ds 0 t && true) (is_phase_expr e && true) h in
          and-true (is_within ds 0 t) (is_phase_expr Value) (both-true (is_within ds 0 t) true parts.0).0
          (phase-operated r total.place (target_value t) e (and-true (is_phase_expr (target_value t)) (is_phase_expr e) (value-phase t) (both-true (is_phase_expr e) true parts.1).0));
    }

  -- of whatever targets and values
  pub body-assignment : (n : ℕ) (inner : Bool) (k : Key) (total : TotalKey) (r : Reduce) (ts : List Target) (es : List Expr) → are_at_once ds n inner ts ≡ true → ForBody ds n inner (Combine k total r ts es) (assignment_of k total r ts es)
  body-assignment n inner k total r [] es once = body-same ds n inner (Combine k total r [] es)
  body-assignment n inner k total r (t ∷ []) [] once = body-same ds n inner (Combine k total r (t ∷ []) [])
  body-assignment n inner k total r (t ∷ []) (e ∷ []) once = by (keeps_tuples r) refl
    where
      by : (b : Bool) → keeps_tuples r ≡ b → ForBody ds n inner (Combine k total r (t ∷ []) (e ∷ [])) (cond b (Combine k total r (t ∷ []) (e ∷ [])) (Assign k t (operated r total.place (target_value t) e)))
      by true picks = body-same ds n inner (Combine k total r (t ∷ []) (e ∷ []))
      by false picks = body-one k total r t e picks n inner once
  body-assignment n inner k total r (t ∷ []) (e ∷ (f ∷ es)) once = body-same ds n inner (Combine k total r (t ∷ []) (e ∷ (f ∷ es)))
  body-assignment n inner k total r (t ∷ (u ∷ ts)) es once = body-same ds n inner (Combine k total r (t ∷ (u ∷ ts)) es)

  pub phase-assignment : (res : Option VType) (k : Key) (total : TotalKey) (r : Reduce) (ts : List Target) (es : List Expr) → ForPhase ds res (Combine k total r ts es) (assignment_of k total r ts es)
  phase-assignment res k total r [] es = phase-same ds res (Combine k total r [] es)
  phase-assignment res k total r (t ∷ []) [] = phase-same ds res (Combine k total r (t ∷ []) [])
  phase-assignment res k total r (t ∷ []) (e ∷ []) = by (keeps_tuples r) refl
    where
      by : (b : Bool) → keeps_tuples r ≡ b → ForPhase ds res (Combine k total r (t ∷ []) (e ∷ [])) (cond b (Combine k total r (t ∷ []) (e ∷ [])) (Assign k t (operated r total.place (target_value t) e)))
      by true picks = phase-same ds res (Combine k total r (t ∷ []) (e ∷ []))
      by false picks = phase-one k total r t e picks res
  phase-assignment res k total r (t ∷ []) (e ∷ (f ∷ es)) = phase-same ds res (Combine k total r (t ∷ []) (e ∷ (f ∷ es)))
  phase-assignment res k total r (t ∷ (u ∷ ts)) es = phase-same ds res (Combine k total r (t ∷ (u ∷ ts)) es)

  pub groups-assignment : (k : Key) (total : TotalKey) (r : Reduce) (ts : List Target) (es : List Expr) → has_no_groups (assignment_of k total r ts es) ≡ true
  groups-assignment k total r [] es = refl
  groups-assignment k total r (t ∷ []) [] = refl
  groups-assignment k total r (t ∷ []) (e ∷ []) = by (keeps_tuples r) refl
    where
      by : (b : Bool) → keeps_tuples r ≡ b → has_no_groups (cond b (Combine k total r (t ∷ []) (e ∷ [])) (Assign k t (operated r total.place (target_value t) e))) ≡ true
      by true picks = refl
      by false picks = refl
  groups-assignment k total r (t ∷ []) (e ∷ (f ∷ es)) = refl
  groups-assignment k total r (t ∷ (u ∷ ts)) es = refl

  pub compounds-assignment : (res : Option VType) (k : Key) (total : TotalKey) (r : Reduce) (ts : List Target) (es : List Expr) → is_typed_in ds res (Combine k total r ts es) ≡ true → has_no_compounds ds (assignment_of k total r ts es) ≡ true
  compounds-assignment res k total r [] es h = absurd (both_ways false refl (both-true (all_have_types ds [] es) false h).1)
  compounds-assignment res k total r (t ∷ []) [] h = absurd (both_ways false refl (both-true false (fits_targets ds r (t ∷ [])) h).0)
  compounds-assignment res k total r (t ∷ []) (e ∷ []) h = by (keeps_tuples r) refl
    where
      by : (b : Bool) → keeps_tuples r ≡ b → has_no_compounds ds (cond b (Combine k total r (t ∷ []) (e ∷ [])) (Assign k t (operated r total.place (target_value t) e))) ≡ true
      by true picks = picks
      by false picks = refl
  compounds-assignment res k total r (t ∷ []) (e ∷ (f ∷ es)) h = absurd (both_ways false refl (both-true (has_type ds (target_type ds t) e) false (both-true (has_type ds (target_type ds t) e && false) (fits_targets ds r (t ∷ [])) h).0).1)
  compounds-assignment res k total r (t ∷ (u ∷ ts)) es h = (both-true (keeps_tuples r) (is_numeric (target_type ds t)) (both-true (all_have_types ds (t ∷ (u ∷ ts)) es) (keeps_tuples r && is_numeric (target_type ds t)) h).1).0

  or-right : (a b : Bool) → b ≡ true → a || b ≡ true
  or-right true b h = refl
  or-right false b h = h

  pub compounds-in-assignment : (res : Option VType) (n : ℕ) (inner : Bool) (k : Key) (total : TotalKey) (r : Reduce) (ts : List Target) (es : List Expr) → is_typed_in ds res (Combine k total r ts es) ≡ true → has_no_compounds_in ds n inner (assignment_of k total r ts es) ≡ true
  compounds-in-assignment res n inner k total r [] es h = absurd (both_ways false refl (both-true (all_have_types ds [] es) false h).1)
  compounds-in-assignment res n inner k total r (t ∷ []) [] h = absurd (both_ways false refl (both-true false (fits_targets ds r (t ∷ [])) h).0)
  compounds-in-assignment res n inner k total r (t ∷ []) (e ∷ []) h = by (keeps_tuples r) refl
    where
      by : (b : Bool) → keeps_tuples r ≡ b → has_no_compounds_in ds n inner (cond b (Combine k total r (t ∷ []) (e ∷ [])) (Assign k t (operated r total.place (target_value t) e))) ≡ true
      by true picks = or-right (not (are_at_once ds n inner (t ∷ []))) (keeps_tuples r) (picks)
      by false picks = refl
  compounds-in-assignment res n inner k total r (t ∷ []) (e ∷ (f ∷ es)) h = absurd (both_ways false refl (both-true (has_type ds (target_type ds t) e) false (both-true (has_type ds (target_type ds t) e && false) (fits_targets ds r (t ∷ [])) h).0).1)
  compounds-in-assignment res n inner k total r (t ∷ (u ∷ ts)) es h = or-right (not (are_at_once ds n inner (t ∷ (u ∷ ts)))) (keeps_tuples r) ((both-true (keeps_tuples r) (is_numeric (target_type ds t)) (both-true (all_have_types ds (t ∷ (u ∷ ts)) es) (keeps_tuples r && is_numeric (target_type ds t)) h).1).0)
