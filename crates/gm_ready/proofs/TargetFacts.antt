-- What the targets of a reduction in a loop's body are, and the accesses to them.
use Rattle.std.proofs.Common.{◌≡◌, ◌⊎◌, ℕ, suc, inl, inr, Bool, true, false, List, [], ◌∷◌, ◌++◌, map, refl, sym, ap, subst, ◌∙◌, ⊎_elim, arith, Some}
use Rattle.std.specs.Prelude.{◌||◌, not, nat_eq, nat_lt, flat_map, if◌then◌else◌}
use Rattle.std.specs.List.{list_all}
use Rattle.std.proofs.lemmas.Bool.{both_ways, eqb-true, eq-eqb}
use Rattle.std.proofs.lemmas.Bool.Decides.{nat_tests}
use Rattle.gm_value.specs.declared.reductions.Reduce.{Reduce}
use Rattle.gm_ast.specs.declared.accesses.Access.{Access}
use Rattle.gm_ast.specs.declared.accesses.AccessKind.{AccessKind}
use Rattle.gm_ast.specs.declared.accesses.AccessKind.TheVariants.{OwnRead, OwnWrite, OwnReduce, PushReduce}
use Rattle.gm_ast.specs.declared.accesses.Operation.{Operation}
use Rattle.gm_ast.specs.declared.tree.Declaration.{Declaration}
use Rattle.gm_ast.specs.declared.tree.Sort.{Sort}
use Rattle.gm_ast.specs.declared.tree.Sort.TheVariants as Sorts
use Rattle.gm_ast.specs.declared.tree.Target.{Target}
use Rattle.gm_ast.specs.declared.tree.Target.TheVariants as T
use Rattle.gm_ast.specs.declared.tree.Variable.{Variable}
use Rattle.gm_ast.specs.Accesses as A
use Rattle.gm_ast.specs.Accesses.{Loop, Around, number_at, loops_outside, access, scalar_read, is_outer, own_reduction, operation, reductions}
use Rattle.gm_ast.specs.Loops.{declared_at, is_property, is_scalar, target_variable}
use Rattle.gm_ast.specs.Names.{is, sort_eq}
use Rattle.gm_ast.specs.Races.{is_own_change}
use Rattle.gm_forms.specs.Forms.{depth_at}
use Rattle.gm_forms.specs.Sharing.{Read, Sights, sights_of_target, sights_at_target, sights_by, sights_of_targets, is_at_once, are_at_once, written_by, variables_of, variables_where, is_owned, is_kept, Reduced, reduced_by, written_at_once, all_reduced_by}
use Rattle.gm_forms.specs.Uses.{Owner, NodeValue, use_as, uses_of_target, uses_of_targets}
use Rattle.gm_forms.proofs.Named.{both-true}
use Rattle.gm_ready.proofs.Placing.{PlacedTarget, PlacedTargets}
use Rattle.gm_ready.proofs.CheckedForms.{scalar-outside, depth-is}
use Rattle.gm_ready.proofs.Racing.{Inside, inside-left, inside-right}
use Rattle.gm_ready.proofs.Pairs.{reduce_kind, Has}
use Rattle.gm_ready.proofs.ReadFacts.{property-counts, Every, every-append, every-map, flip, Suit, split, NoProp, IsProp, ScalarAt, owner-plain, Over, accessed, property-accessed, Somewhere, ToldOut, ReadOut, SeenOut, told-out, Away, ToldIn, ReadIn, SeenIn, told-in}

-- the variables of targets are those of the operation
pub variables-are : (ts : List Target) → map target_variable ts ≡ variables_of ts
variables-are [] = refl
variables-are (T.Scalar x at ∷ ts) = ap (λ xs. x ∷ xs) (variables-are ts)
variables-are (T.Property x p at ∷ ts) = ap (λ xs. p ∷ xs) (variables-are ts)

-- ---- each variable of some targets

where-each : (test : Target → Bool) (P : ℕ → Type 0) (F : Target → Type 0) → ((t : Target) → F t → test t ≡ true → Every P (written_by t)) → (ts : List Target) → Every F ts → Every P (variables_where test ts)
where-each test P F f [] h = tt
where-each test P F f (t ∷ ts) h = by (test t) refl (where-each test P F f ts h.1)
  where
    by : (c : Bool) → test t ≡ c → Every P (variables_where test ts) → Every P (if c then written_by t ++ variables_where test ts else variables_where test ts)
    by true e more = every-append P (written_by t) (variables_where test ts) (f t h.0 e) more
    by false e more = more

variable-each : (P : ℕ → Type 0) (F : Target → Type 0) → ((t : Target) → F t → Every P (written_by t)) → (ts : List Target) → Every F ts → Every P (variables_of ts)
variable-each P F f [] h = tt
variable-each P F f (t ∷ ts) h = every-append P (written_by t) (variables_of ts) (f t h.0) (variable-each P F f ts h.1)

passing : (test : Target → Bool) (F : Target → Type 0) (ts : List Target) → Every F ts → list_all test ts ≡ true → Every (λ t. F t × (test t ≡ true)) ts
passing test F [] h k = tt
passing test F (t ∷ ts) h k = let s = both-true (test t) (list_all test ts) k in ((h.0, s.0), passing test F ts h.1 s.1)

not-out : (b : Bool) → not (not b) ≡ true → b ≡ true
not-out true h = refl
not-out false h = h

not-true : (b : Bool) → not b ≡ true → b ≡ false
not-true true h = absurd (both_ways false refl h)
not-true false h = refl

sights-each : (P : Read → Type 0) (Q : ℕ → Type 0) (sights : Target → Sights) (F : Target → Type 0) → ((t : Target) → F t → Every P (sights t).properties × Every Q (sights t).scalars) → (ts : List Target) → Every F ts
    → Every P (sights_by sights ts).properties × Every Q (sights_by sights ts).scalars
sights-each P Q sights F f [] h = (tt, tt)
sights-each P Q sights F f (t ∷ ts) h =
    let one = f t h.0 in
    let more = sights-each P Q sights F f ts h.1 in
    (every-append P (sights t).properties (sights_by sights ts).properties one.0 more.0, every-append Q (sights t).scalars (sights_by sights ts).scalars one.1 more.1)

module _ (ds : List Declaration) where
  -- a scalar, and how deep it is declared
  abbrev pub IsScalar : ℕ → Type 0
  IsScalar x = (is_scalar (declared_at ds x) ≡ true) × (loops_outside (declared_at ds x) ≡ depth_at ds x)

  -- a local of a body, or what is no scalar of the procedure
  abbrev pub Local : ℕ → Type 0
  Local x = NoProp ds x × (ScalarAt ds 0 x → ⊥)

  pub scalar-is : (x : ℕ) (v : Variable) → declared_at ds x ≡ Some v → is Sorts.Scalar v ≡ true → NoProp ds x × IsScalar x
  scalar-is x v e h = (ap is_property e ∙ plain v h, (ap is_scalar e ∙ h, ap loops_outside e ∙ scalar-outside v h ∙ sym (depth-is ds x v e)))
    where
      plain : (v : Variable) → is Sorts.Scalar v ≡ true → is Sorts.NodeProperty v || is Sorts.EdgeProperty v ≡ false
      plain v h = by v.sort h
        where
          by : (s : Sort) → sort_eq Sorts.Scalar s ≡ true → sort_eq Sorts.NodeProperty s || sort_eq Sorts.EdgeProperty s ≡ false
          by Sorts.Scalar h = refl
          by Sorts.Graph h = refl
          by Sorts.Iterator h = refl
          by Sorts.Edge h = refl
          by Sorts.NodeProperty h = absurd (both_ways false refl h)
          by Sorts.EdgeProperty h = absurd (both_ways false refl h)

  -- a scalar that is not one of the procedure is a local
  local-of : (x : ℕ) → NoProp ds x → IsScalar x → nat_eq (depth_at ds x) 0 ≡ false → Local x
  local-of x plain s deep = (plain, λ k. both_ways (nat_eq (depth_at ds x) 0) deep (eq-eqb (depth_at ds x) 0 (sym s.1 ∙ k.1)))

  deeper : (d : ℕ) → nat_lt 1 d ≡ true → nat_eq d 0 ≡ false
  deeper d h = grind (arith, nat_tests)

  pub local-at : (x d : ℕ) → NoProp ds x → IsScalar x → depth_at ds x ≡ suc d → Local x
  local-at x d plain s deep = (plain, λ k. let a = s.1 in let b = k.1 in let no : ⊥ = omega (arith, a, b, deep) in no)

  module _ (all : List Access) (l : Loop) where
    abbrev n : ℕ
    n = l.iterator

    abbrev L : ℕ
    L = l.number

    abbrev Any : AccessKind → ℕ → Type 0
    Any kind x = Somewhere ds all l kind x

    abbrev pub operation_of : Reduced → Operation
    operation_of r = record { reduce = r.reduce; targets = r.variables }

    -- what ends with the loop at any node, by an operation
    abbrev pub SharedBy : Operation → ℕ → Type 0
    SharedBy op x = (IsProp ds x ⊎ (NoProp ds x × ScalarAt ds 0 x)) × Any (PushReduce op) x

    -- a variable of an operation
    abbrev pub VariableOf : Operation → ℕ → Type 0
    VariableOf op x = Local x ⊎ (((own : Bool) × Any (reduce_kind own op) x) ⊎ (IsProp ds x × Any OwnWrite x))

    -- what is changed at the loop's own node, or no property
    abbrev pub Kept : ℕ → Type 0
    Kept x = NoProp ds x ⊎ (IsProp ds x × ((kind : AccessKind) × ((is_own_change kind ≡ true) × Any kind x)))

    -- what is written at the loop's own node, or a local
    abbrev pub Own : ℕ → Type 0
    Own x = Local x ⊎ (IsProp ds x × Any OwnWrite x)

    abbrev pub Given : Reduced → Type 0
    Given r = Every (SharedBy (operation_of r)) r.shared × (Every (VariableOf (operation_of r)) r.variables × Every Kept r.kept)

    abbrev around : List Loop → Around
    around loops = record { declarations = ds; loops = loops }

    -- ---- an outer body

    abbrev TargetOut : Operation → Target → Type 0
    TargetOut op (T.Scalar x at) = NoProp ds x × (IsScalar x × (depth_at ds x ≡ 0 → Any (PushReduce op) x))
    TargetOut op (T.Property x p at) =
        IsProp ds p × (ToldOut ds all l x × (((nat_eq x n ≡ true) × (Any OwnRead p × Any OwnWrite p)) ⊎ ((nat_eq x n ≡ false) × Any (PushReduce op) p)))

    pub targets-out : (op : Operation) (ts : List Target) → PlacedTargets ds 1 ts → Suit ds (uses_of_targets ts) → Inside (flat_map (A.reduced (around (l ∷ [])) op) ts) all → Every (TargetOut op) ts
    targets-out op [] h u i = tt
    targets-out op (t ∷ ts) h u i =
        let w = around (l ∷ []) in
        let s = split ds (uses_of_target t) (uses_of_targets ts) u in
        let x = A.reduced w op t in
        let y = flat_map (A.reduced w op) ts in
        (one t h.0 s.0 (inside-left x y all i), targets-out op ts h.1 s.1 (inside-right x y all i))
      where
        one : (t : Target) → PlacedTarget ds 1 t → Suit ds (uses_of_target t) → Inside (A.reduced (around (l ∷ [])) op t) all → TargetOut op t
        one (T.Scalar x at) h u i =
            let s = scalar-is x h.0 h.1.0 h.1.1.0 in
            (s.0, (s.1, λ none. (number_at (l ∷ []) 1, accessed ds all (around (l ∷ [])) refl x at (PushReduce op) 0 (s.1.1 ∙ none) refl i)))
        one (T.Property x p at) h u i =
            let w = around (l ∷ []) in
            let s = split ds (use_as Owner x) (use_as NodeValue p) u in
            let is : IsProp ds p = ap is_property h.1.0 ∙ ap (λ c. c || is Sorts.EdgeProperty h.0) h.1.1 in
            let more = if is_outer w.loops x then own_reduction w op p at else access w p at (PushReduce op) in
            let told = told-out ds all l x at (owner-plain ds x s.0) (inside-left (scalar_read w x at) more all i) in
            (is, (told, by (nat_eq x n) refl is (subst (λ c. Inside (if c then own_reduction w op p at else access w p at (PushReduce op)) all) (flip n x) (inside-right (scalar_read w x at) more all i))))
          where
            by : (c : Bool) → nat_eq x n ≡ c → IsProp ds p → Inside (if c then own_reduction (around (l ∷ [])) op p at else access (around (l ∷ [])) p at (PushReduce op)) all
                → ((nat_eq x n ≡ true) × (Any OwnRead p × Any OwnWrite p)) ⊎ ((nat_eq x n ≡ false) × Any (PushReduce op) p)
            by true e is i =
                let r = access (around (l ∷ [])) p at OwnRead in
                let v = access (around (l ∷ [])) p at OwnWrite in
                inl (e, ((number_at (l ∷ []) 1, property-accessed ds all (l ∷ []) p at OwnRead is refl (inside-left r v all i)), (number_at (l ∷ []) 1, property-accessed ds all (l ∷ []) p at OwnWrite is refl (inside-right r v all i))))
            by false e is i = inr (e, (number_at (l ∷ []) 1, property-accessed ds all (l ∷ []) p at (PushReduce op) is refl i))

    shared-out : (op : Operation) (t : Target) → TargetOut op t → not (is_owned ds n t) ≡ true → Every (SharedBy op) (written_by t)
    shared-out op (T.Scalar x at) h e =
        let none : depth_at ds x ≡ 0 = eqb-true (depth_at ds x) 0 (not-out (nat_eq (depth_at ds x) 0) e) in
        ((inr (h.0, (h.1.0.0, h.1.0.1 ∙ none)), h.1.1 none), tt)
    shared-out op (T.Property x p at) h e =
        ((inl h.0, ⊎_elim (λ (o : (nat_eq x n ≡ true) × (Any OwnRead p × Any OwnWrite p)). absurd (both_ways (nat_eq x n) (not-true (nat_eq x n) e) o.0)) (λ (o : (nat_eq x n ≡ false) × Any (PushReduce op) p). o.1) h.1.1), tt)

    variable-out : (op : Operation) (t : Target) → TargetOut op t → Every (VariableOf op) (written_by t)
    variable-out op (T.Scalar x at) h = (by (nat_eq (depth_at ds x) 0) refl, tt)
      where
        by : (c : Bool) → nat_eq (depth_at ds x) 0 ≡ c → VariableOf op x
        by true e = inr (inl (false, h.1.1 (eqb-true (depth_at ds x) 0 e)))
        by false e = inl (local-of x h.0 h.1.0 e)
    variable-out op (T.Property x p at) h =
        (⊎_elim (λ (o : (nat_eq x n ≡ true) × (Any OwnRead p × Any OwnWrite p)). inr (inr (h.0, o.1.1))) (λ (o : (nat_eq x n ≡ false) × Any (PushReduce op) p). inr (inl (false, o.1))) h.1.1, tt)

    kept-out : (op : Operation) (t : Target) → TargetOut op t → is_kept ds n t ≡ true → Every Kept (written_by t)
    kept-out op (T.Scalar x at) h e = (inl h.0, tt)
    kept-out op (T.Property x p at) h e =
        (⊎_elim (λ (o : (nat_eq x n ≡ true) × (Any OwnRead p × Any OwnWrite p)). inr (h.0, (OwnWrite, (refl, o.1.1)))) (λ (o : (nat_eq x n ≡ false) × Any (PushReduce op) p). absurd (both_ways (nat_eq x n) o.0 e)) h.1.1, tt)

    pub given-out : (k : ℕ) (r : Reduce) (ts : List Target) → Every (TargetOut (operation_of (reduced_by ds n k r ts))) ts → Given (reduced_by ds n k r ts)
    given-out k r ts h =
        let op = operation_of (reduced_by ds n k r ts) in (
          where-each (λ t. not (is_owned ds n t)) (SharedBy op) (TargetOut op) (shared-out op) ts h,
          (variable-each (VariableOf op) (TargetOut op) (variable-out op) ts h, where-each (is_kept ds n) Kept (TargetOut op) (kept-out op) ts h),
        )

    -- what is done at once
    own-out : (op : Operation) (t : Target) → TargetOut op t × (is_at_once ds n false t ≡ true) → Every Own (written_by t)
    own-out op (T.Scalar x at) h = (inl (local-of x h.0.0 h.0.1.0 (not-true (nat_eq (depth_at ds x) 0) h.1)), tt)
    own-out op (T.Property x p at) h =
        (⊎_elim (λ (o : (nat_eq x n ≡ true) × (Any OwnRead p × Any OwnWrite p)). inr (h.0.0, o.1.1)) (λ (o : (nat_eq x n ≡ false) × Any (PushReduce op) p). absurd (both_ways (nat_eq x n) o.0 h.1)) h.0.1.1, tt)

    sight-at-out : (levels : Bool) (op : Operation) (t : Target) → TargetOut op t × (is_at_once ds n false t ≡ true)
        → Every (λ r. ReadOut ds all l levels r × Away ds all l r) (sights_at_target t).properties × Every (ToldOut ds all l) (sights_at_target t).scalars
    sight-at-out levels op (T.Scalar x at) h =
        let deep = local-of x h.0.0 h.0.1.0 (not-true (nat_eq (depth_at ds x) 0) h.1) in (tt, ((deep.0, λ k. absurd (deep.1 k)), tt))
    sight-at-out levels op (T.Property x p at) h =
        let read : Any OwnRead p = ⊎_elim (λ (o : (nat_eq x n ≡ true) × (Any OwnRead p × Any OwnWrite p)). o.1.0) (λ (o : (nat_eq x n ≡ false) × Any (PushReduce op) p). absurd (both_ways (nat_eq x n) o.0 h.1)) h.0.1.1 in
        ((((h.0.0, inl (h.1, read)), (h.0.0, inl h.1)), tt), (h.0.1.0, tt))

    sight-of-out : (levels : Bool) (op : Operation) (t : Target) → TargetOut op t
        → Every (λ r. ReadOut ds all l levels r × Away ds all l r) (sights_of_target t).properties × Every (ToldOut ds all l) (sights_of_target t).scalars
    sight-of-out levels op (T.Scalar x at) h = (tt, tt)
    sight-of-out levels op (T.Property x p at) h = (tt, (h.1.0, tt))

    abbrev Both : Bool → Read → Type 0
    Both levels r = ReadOut ds all l levels r × Away ds all l r

    pub sights-out : (levels : Bool) (op : Operation) (ts : List Target) → Every (TargetOut op) ts
        → SeenOut ds all l levels (sights_of_targets ds n false ts) × Every (Away ds all l) (sights_of_targets ds n false ts).properties
    sights-out levels op ts h = parts (by (are_at_once ds n false ts) refl)
      where
        by : (c : Bool) → are_at_once ds n false ts ≡ c → Every (Both levels) (sights_by (if c then sights_at_target else sights_of_target) ts).properties × Every (ToldOut ds all l) (sights_by (if c then sights_at_target else sights_of_target) ts).scalars
        by true e = sights-each (Both levels) (ToldOut ds all l) sights_at_target (λ t. TargetOut op t × (is_at_once ds n false t ≡ true)) (sight-at-out levels op) ts (passing (is_at_once ds n false) (TargetOut op) ts h e)
        by false e = sights-each (Both levels) (ToldOut ds all l) sights_of_target (TargetOut op) (sight-of-out levels op) ts h

        parts : Every (Both levels) (sights_of_targets ds n false ts).properties × Every (ToldOut ds all l) (sights_of_targets ds n false ts).scalars
            → SeenOut ds all l levels (sights_of_targets ds n false ts) × Every (Away ds all l) (sights_of_targets ds n false ts).properties
        parts s =
            ((every-map (Both levels) (ReadOut ds all l levels) (sights_of_targets ds n false ts).properties (λ r b. b.0) s.0, s.1), every-map (Both levels) (Away ds all l) (sights_of_targets ds n false ts).properties (λ r b. b.1) s.0)

    pub written-out : (op : Operation) (ts : List Target) → Every (TargetOut op) ts → Every Own (written_at_once ds n false ts)
    written-out op ts h = by (are_at_once ds n false ts) refl
      where
        by : (c : Bool) → are_at_once ds n false ts ≡ c → Every Own (if c then variables_of ts else [])
        by true e = variable-each Own (λ t. TargetOut op t × (is_at_once ds n false t ≡ true)) (own-out op) ts (passing (is_at_once ds n false) (TargetOut op) ts h e)
        by false e = tt

    pub reduced-out : (k : ℕ) (r : Reduce) (ts : List Target) → Every (TargetOut (operation_of (reduced_by ds n k r ts))) ts → Every Given (all_reduced_by ds n false k r ts)
    reduced-out k r ts h = by (are_at_once ds n false ts)
      where
        by : (c : Bool) → Every Given (if c then [] else reduced_by ds n k r ts ∷ [])
        by true = tt
        by false = (given-out k r ts h, tt)

    -- ---- an inner body

    module _ (m : Loop) (levels : Bool) (kind : AccessKind) (over : Over ds levels m.domain kind) where
      abbrev M : ℕ
      M = m.number

      abbrev loops : List Loop
      loops = l ∷ (m ∷ [])

      abbrev TargetIn : Operation → Target → Type 0
      TargetIn op (T.Scalar x at) = NoProp ds x × (IsScalar x × ((depth_at ds x ≡ 0 → Has all L M (PushReduce op) x) × (depth_at ds x ≡ 1 → Has all M M (PushReduce op) x)))
      TargetIn op (T.Property x p at) =
          IsProp ds p × (ToldIn ds all l m levels kind over x × (((nat_eq x n ≡ true) × Has all L M (OwnReduce op) p) ⊎ ((nat_eq x n ≡ false) × Has all L M (PushReduce op) p)))

      -- what ends with the inner loop at the outer iteration's own
      abbrev pub KeptIn : ℕ → Type 0
      KeptIn x = (NoProp ds x × (ScalarAt ds 1 x × ((op : Operation) × Has all M M (PushReduce op) x))) ⊎ (IsProp ds x × ((op : Operation) × Has all L M (OwnReduce op) x))

      -- what lasts longer than a turn of the inner loop
      abbrev pub LastsBy : Operation → ℕ → Type 0
      LastsBy op x = (own : Bool) × Has all (number_at loops (loops_outside (declared_at ds x))) M (reduce_kind own op) x

      abbrev pub GivenIn : Reduced → Type 0
      GivenIn r = Given r × (Every (LastsBy (operation_of r)) (r.shared ++ r.kept) × Every KeptIn r.kept)

      pub targets-in : (op : Operation) (ts : List Target) → PlacedTargets ds 2 ts → Suit ds (uses_of_targets ts) → Inside (flat_map (A.reduced (around loops) op) ts) all → Every (TargetIn op) ts
      targets-in op [] h u i = tt
      targets-in op (t ∷ ts) h u i =
          let w = around loops in
          let s = split ds (uses_of_target t) (uses_of_targets ts) u in
          let x = A.reduced w op t in
          let y = flat_map (A.reduced w op) ts in
          (one t h.0 s.0 (inside-left x y all i), targets-in op ts h.1 s.1 (inside-right x y all i))
        where
          one : (t : Target) → PlacedTarget ds 2 t → Suit ds (uses_of_target t) → Inside (A.reduced (around loops) op t) all → TargetIn op t
          one (T.Scalar x at) h u i =
              let s = scalar-is x h.0 h.1.0 h.1.1.0 in
              (s.0, (s.1, (λ none. accessed ds all (around loops) refl x at (PushReduce op) 0 (s.1.1 ∙ none) refl i, λ one. accessed ds all (around loops) refl x at (PushReduce op) 1 (s.1.1 ∙ one) refl i)))
          one (T.Property x p at) h u i =
              let w = around loops in
              let s = split ds (use_as Owner x) (use_as NodeValue p) u in
              let is : IsProp ds p = ap is_property h.1.0 ∙ ap (λ c. c || is Sorts.EdgeProperty h.0) h.1.1 in
              let more = if is_outer w.loops x then own_reduction w op p at else access w p at (PushReduce op) in
              let told = told-in ds all l m levels kind over x at (owner-plain ds x s.0) (inside-left (scalar_read w x at) more all i) in
              (is, (told, by (nat_eq x n) refl is (subst (λ c. Inside (if c then own_reduction w op p at else access w p at (PushReduce op)) all) (flip n x) (inside-right (scalar_read w x at) more all i))))
            where
              by : (c : Bool) → nat_eq x n ≡ c → IsProp ds p → Inside (if c then own_reduction (around loops) op p at else access (around loops) p at (PushReduce op)) all
                  → ((nat_eq x n ≡ true) × Has all L M (OwnReduce op) p) ⊎ ((nat_eq x n ≡ false) × Has all L M (PushReduce op) p)
              by true e is i = inl (e, property-accessed ds all loops p at (OwnReduce op) is refl i)
              by false e is i = inr (e, property-accessed ds all loops p at (PushReduce op) is refl i)

      abbrev OwnIn : Operation → ℕ → ℕ → Type 0
      OwnIn op x p = (nat_eq x n ≡ true) × Has all L M (OwnReduce op) p

      abbrev OtherIn : Operation → ℕ → ℕ → Type 0
      OtherIn op x p = (nat_eq x n ≡ false) × Has all L M (PushReduce op) p

      other-in : (op : Operation) (x p : ℕ) → OwnIn op x p ⊎ OtherIn op x p → nat_eq x n ≡ false → Has all L M (PushReduce op) p
      other-in op x p h e = ⊎_elim (λ (o : OwnIn op x p). absurd (both_ways (nat_eq x n) e o.0)) (λ (o : OtherIn op x p). o.1) h

      own-in : (op : Operation) (x p : ℕ) → OwnIn op x p ⊎ OtherIn op x p → nat_eq x n ≡ true → Has all L M (OwnReduce op) p
      own-in op x p h e = ⊎_elim (λ (o : OwnIn op x p). o.1) (λ (o : OtherIn op x p). absurd (both_ways (nat_eq x n) o.0 e)) h

      shared-in : (op : Operation) (t : Target) → TargetIn op t → not (is_owned ds n t) ≡ true → Every (λ x. SharedBy op x × LastsBy op x) (written_by t)
      shared-in op (T.Scalar x at) h e =
          let none : depth_at ds x ≡ 0 = eqb-true (depth_at ds x) 0 (not-out (nat_eq (depth_at ds x) 0) e) in
          let has = h.1.1.0 none in
          let counts = h.1.0.1 ∙ none in
          (((inr (h.0, (h.1.0.0, counts)), (M, has)), (false, subst (λ k. Has all (number_at loops k) M (PushReduce op) x) (sym counts) has)), tt)
      shared-in op (T.Property x p at) h e =
          let has = other-in op x p h.1.1 (not-true (nat_eq x n) e) in
          (((inl h.0, (M, has)), (false, subst (λ k. Has all (number_at loops k) M (PushReduce op) p) (sym (property-counts ds p h.0)) has)), tt)

      variable-in : (op : Operation) (t : Target) → TargetIn op t → Every (VariableOf op) (written_by t)
      variable-in op (T.Scalar x at) h = (by (nat_eq (depth_at ds x) 0) refl, tt)
        where
          by : (c : Bool) → nat_eq (depth_at ds x) 0 ≡ c → VariableOf op x
          by true e = inr (inl (false, (M, h.1.1.0 (eqb-true (depth_at ds x) 0 e))))
          by false e = inl (local-of x h.0 h.1.0 e)
      variable-in op (T.Property x p at) h =
          (⊎_elim (λ (o : OwnIn op x p). inr (inl (true, (M, o.1)))) (λ (o : OtherIn op x p). inr (inl (false, (M, o.1)))) h.1.1, tt)

      kept-in : (op : Operation) (t : Target) → TargetIn op t → is_kept ds n t ≡ true → Every (λ x. Kept x × (LastsBy op x × KeptIn x)) (written_by t)
      kept-in op (T.Scalar x at) h e =
          let one : depth_at ds x ≡ 1 = eqb-true (depth_at ds x) 1 e in
          let has = h.1.1.1 one in
          let counts = h.1.0.1 ∙ one in
          ((inl h.0, ((false, subst (λ k. Has all (number_at loops k) M (PushReduce op) x) (sym counts) has), inl (h.0, ((h.1.0.0, counts), (op, has))))), tt)
      kept-in op (T.Property x p at) h e =
          let has = own-in op x p h.1.1 e in
          ((inr (h.0, (OwnReduce op, (refl, (M, has)))), ((true, subst (λ k. Has all (number_at loops k) M (OwnReduce op) p) (sym (property-counts ds p h.0)) has), inr (h.0, (op, has)))), tt)

      given-in : (k : ℕ) (r : Reduce) (ts : List Target) → Every (TargetIn (operation_of (reduced_by ds n k r ts))) ts → GivenIn (reduced_by ds n k r ts)
      given-in k r ts h =
          let it = reduced_by ds n k r ts in
          let op = operation_of it in
          let shared = where-each (λ t. not (is_owned ds n t)) (λ x. SharedBy op x × LastsBy op x) (TargetIn op) (shared-in op) ts h in
          let kept = where-each (is_kept ds n) (λ x. Kept x × (LastsBy op x × KeptIn x)) (TargetIn op) (kept-in op) ts h in (
            (
              every-map (λ x. SharedBy op x × LastsBy op x) (SharedBy op) it.shared (λ x b. b.0) shared,
              (variable-each (VariableOf op) (TargetIn op) (variable-in op) ts h, every-map (λ x. Kept x × (LastsBy op x × KeptIn x)) Kept it.kept (λ x b. b.0) kept),
            ),
            (
              every-append (LastsBy op) it.shared it.kept (every-map (λ x. SharedBy op x × LastsBy op x) (LastsBy op) it.shared (λ x b. b.1) shared) (every-map (λ x. Kept x × (LastsBy op x × KeptIn x)) (LastsBy op) it.kept (λ x b. b.1.0) kept),
              every-map (λ x. Kept x × (LastsBy op x × KeptIn x)) KeptIn it.kept (λ x b. b.1.1) kept,
            ),
          )

      -- what is done at once goes to locals of the inner body
      pub reduced-in : (k : ℕ) (r : Reduce) (ts : List Target) → Every (TargetIn (operation_of (reduced_by ds n k r ts))) ts → Every GivenIn (all_reduced_by ds n true k r ts)
      reduced-in k r ts h = by (are_at_once ds n true ts)
        where
          by : (c : Bool) → Every GivenIn (if c then [] else reduced_by ds n k r ts ∷ [])
          by true = tt
          by false = (given-in k r ts h, tt)

      once-in : (op : Operation) (t : Target) → TargetIn op t × (is_at_once ds n true t ≡ true) → Every Own (written_by t)
      once-in op (T.Scalar x at) h = (inl (local-of x h.0.0 h.0.1.0 (deeper (depth_at ds x) h.1)), tt)
      once-in op (T.Property x p at) h = absurd (both_ways false refl h.1)

      pub written-in : (op : Operation) (ts : List Target) → Every (TargetIn op) ts → Every Own (written_at_once ds n true ts)
      written-in op ts h = by (are_at_once ds n true ts) refl
        where
          by : (c : Bool) → are_at_once ds n true ts ≡ c → Every Own (if c then variables_of ts else [])
          by true e = variable-each Own (λ t. TargetIn op t × (is_at_once ds n true t ≡ true)) (once-in op) ts (passing (is_at_once ds n true) (TargetIn op) ts h e)
          by false e = tt

      no-one : (d k : ℕ) → nat_lt 1 d ≡ true → k ≡ d → k ≡ 1 → ⊥
      no-one d k h e f = both_ways (nat_lt 1 1) refl (ap (nat_lt 1) (sym f ∙ e) ∙ h)

      sight-at-in : (op : Operation) (t : Target) → TargetIn op t × (is_at_once ds n true t ≡ true) → Every (ReadIn ds all l m levels kind over) (sights_at_target t).properties × Every (ToldIn ds all l m levels kind over) (sights_at_target t).scalars
      sight-at-in op (T.Scalar x at) h =
          let deep = local-of x h.0.0 h.0.1.0 (deeper (depth_at ds x) h.1) in
          (tt, ((deep.0, (λ k. absurd (deep.1 k), λ k. absurd (no-one (depth_at ds x) (loops_outside (declared_at ds x)) h.1 h.0.1.0.1 k.1))), tt))
      sight-at-in op (T.Property x p at) h = absurd (both_ways false refl h.1)

      sight-of-in : (op : Operation) (t : Target) → TargetIn op t → Every (ReadIn ds all l m levels kind over) (sights_of_target t).properties × Every (ToldIn ds all l m levels kind over) (sights_of_target t).scalars
      sight-of-in op (T.Scalar x at) h = (tt, tt)
      sight-of-in op (T.Property x p at) h = (tt, (h.1.0, tt))

      pub sights-in : (op : Operation) (ts : List Target) → Every (TargetIn op) ts → SeenIn ds all l m levels kind over (sights_of_targets ds n true ts)
      sights-in op ts h = by (are_at_once ds n true ts) refl
        where
          by : (c : Bool) → are_at_once ds n true ts ≡ c → SeenIn ds all l m levels kind over (sights_by (if c then sights_at_target else sights_of_target) ts)
          by true e =
              sights-each (ReadIn ds all l m levels kind over) (ToldIn ds all l m levels kind over) sights_at_target (λ t. TargetIn op t × (is_at_once ds n true t ≡ true)) (sight-at-in op) ts (passing (is_at_once ds n true) (TargetIn op) ts h e)
          by false e = sights-each (ReadIn ds all l m levels kind over) (ToldIn ds all l m levels kind over) sights_of_target (TargetIn op) (sight-of-in op) ts h
