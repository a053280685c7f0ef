-- A body that names no local: none goes from one part into another, and its inner loops stand apart.
use Rattle.std.proofs.Common.{◌≡◌, arith, ℕ, Bool, true, false, cond, List, [], ◌∷◌, ◌++◌, refl, sym, ap, subst, ◌∙◌, append-nil, Some, None, ⊎_elim, inl, inr}
use Rattle.std.specs.Prelude.{◌⊎◌, ◌&&◌, ◌||◌, not, nat_eq, nat_le}
use Rattle.std.specs.List.{list_all}
use Rattle.std.proofs.lemmas.Bool.{both_ways, eqb-true}
use Rattle.std.proofs.lemmas.Bool.Decides.{nat_tests}
use Rattle.gm_value.specs.Bag.{IsIn}
use Rattle.gm_ast.specs.declared.tree.Declaration.{Declaration}
use Rattle.gm_ast.specs.declared.tree.Sort.TheVariants as Sorts
use Rattle.gm_ast.specs.declared.tree.Target.{Target}
use Rattle.gm_ast.specs.declared.tree.Target.TheVariants as T
use Rattle.gm_ast.specs.Names.{sort_eq}
use Rattle.gm_ast.specs.Program.{NodeCount, Stmt, Skip, Then, Declare, DeclareEdge, Assign, Defer, Combine, Foreach, If}
use Rattle.gm_ast.specs.Ways.{is_in}
use Rattle.gm_semantics.specs.Statements.{variable_at}
use Rattle.gm_forms.specs.Cut.{is_own_loop, is_no_local, is_outer_local, spares_locals}
use Rattle.gm_forms.specs.Fission.{left, changed, reduced_locals}
use Rattle.gm_forms.specs.Fission as Fission
use Rattle.gm_forms.specs.Forms.{depth_at, may, is_flat, are_reduced, is_given, is_within, is_inner_head, is_inner_body, is_outer_body}
use Rattle.gm_forms.specs.Order.{first_key}
use Rattle.gm_forms.specs.Sharing.{told_in, sights_in_option, sights_in_all, sights_of_target, sights_at_target, sights_by, are_at_once, is_kept, sights_of, variables_of, variables_where, reduced_by, reduced, owned_in, kept_in, targets_alike}
use Rattle.gm_forms.specs.Typing.{keeps_tuples}
use Rattle.gm_forms.specs.Uses.{Iterates, Written, Owner, NodeValue, Use, has_role, use_as, suits, uses_in, uses_in_all, uses_of_head, uses_of_targets, uses_of}
use Rattle.gm_forms.proofs.Doings.{in-either}
use Rattle.gm_forms.proofs.Named.{both-true, all-append}
use Rattle.gm_forms.proofs.Weaker.{and-true}
use Rattle.gm_dissect.proofs.DeferredLoops.{use-of, either-true}
use Rattle.gm_dissect.proofs.Undeferred.{append-true}
use Rattle.gm_locals.specs.Across.{changes_no_scalar}
use Rattle.gm_locals.proofs.Across.{none-across}
use Rattle.gm_cut.specs.Parts.{locals_stay}
use Rattle.gm_cut.proofs.Roles.{touched-apart, iterates-of}
use Rattle.gm_cut.proofs.Shared.{kept-split}
use Rattle.gm_parting.specs.InnerLoops.{inner_loops_apart}
use Rattle.gm_parting.specs.Locals.{target_passes, names_pass}
use Rattle.gm_parting.specs.Staying.{locals_stay_within}
use Rattle.gm_parting.specs.Tuples.{reduces_evenly}
use Rattle.gm_parting.proofs.Reductions.{all-clear}
use Rattle.gm_parting.proofs.Separable.{owned-kept}

module _ (ds : List Declaration) (n : ℕ) (iterates : has_role (variable_at ds n) Iterates ≡ true) where
  abbrev Suit : List Use → Type 0
  Suit us = list_all (suits ds) us ≡ true

  abbrev Free : List ℕ → Stmt → Type 0
  Free its s = names_pass (is_no_local ds) its s ≡ true

  -- ---- what an inner body reads

  target-told : (its : List ℕ) (once : Bool) (t : Target) → target_passes (is_no_local ds) its t ≡ true → list_all (is_no_local ds its) (cond once sights_at_target sights_of_target t).scalars ≡ true
  target-told its true (T.Scalar x at) h = and-true (is_no_local ds its x) true h refl
  target-told its true (T.Property x p at) h = and-true (is_no_local ds its x) true h refl
  target-told its false (T.Scalar x at) h = refl
  target-told its false (T.Property x p at) h = and-true (is_no_local ds its x) true h refl

  targets-told : (its : List ℕ) (once : Bool) (ts : List Target) → list_all (target_passes (is_no_local ds) its) ts ≡ true → list_all (is_no_local ds its) (sights_by (cond once sights_at_target sights_of_target) ts).scalars ≡ true
  targets-told its once [] h = refl
  targets-told its once (t ∷ ts) h =
      let r = both-true (target_passes (is_no_local ds) its t) (list_all (target_passes (is_no_local ds) its) ts) h in
      append-true (is_no_local ds its) (cond once sights_at_target sights_of_target t).scalars (sights_by (cond once sights_at_target sights_of_target) ts).scalars (target-told its once t r.0) (targets-told its once ts r.1)

  target-only : (its : List ℕ) (t : Target) → target_passes (is_no_local ds) its t ≡ true → list_all (is_no_local ds its) (sights_of_target t).scalars ≡ true
  target-only its t h = target-told its false t h

  inner-told : (js its : List ℕ) (s : Stmt) → is_inner_body ds js true s ≡ true → Free its s → list_all (is_no_local ds its) (sights_of ds n true s).scalars ≡ true
  inner-told js its (Then a b) f h =
      let g = both-true (is_inner_body ds js true a) (is_inner_body ds js true b) f in
      let r = both-true (names_pass (is_no_local ds) its a) (names_pass (is_no_local ds) its b) h in
      append-true (is_no_local ds its) (sights_of ds n true a).scalars (sights_of ds n true b).scalars (inner-told js its a g.0 r.0) (inner-told js its b g.1 r.1)
  inner-told js its (If k c a b) f h =
      let e = both-true (is_flat js true c) (is_inner_body ds js true a && is_inner_body ds js true b) f in
      let g = both-true (is_inner_body ds js true a) (is_inner_body ds js true b) e.1 in
      let q = both-true (list_all (is_no_local ds its) (told_in c)) (names_pass (is_no_local ds) its a && names_pass (is_no_local ds) its b) h in
      let r = both-true (names_pass (is_no_local ds) its a) (names_pass (is_no_local ds) its b) q.1 in
      append-true (is_no_local ds its) (told_in c) ((sights_of ds n true a).scalars ++ (sights_of ds n true b).scalars) q.0
      (append-true (is_no_local ds its) (sights_of ds n true a).scalars (sights_of ds n true b).scalars (inner-told js its a g.0 r.0) (inner-told js its b g.1 r.1))
  inner-told js its (Declare k x None) f h = refl
  inner-told js its (Declare k x (Some e)) f h = (both-true (is_no_local ds its x) (list_all (is_no_local ds its) (told_in e)) h).1
  inner-told js its (Assign k t e) f h =
      let r = both-true (target_passes (is_no_local ds) its t) (list_all (is_no_local ds its) (told_in e)) h in append-true (is_no_local ds its) (sights_of_target t).scalars (told_in e) (target-only its t r.0) r.1
  inner-told js its (Combine k total o ts es) f h =
      let r = both-true (list_all (target_passes (is_no_local ds) its) ts) (list_all (is_no_local ds its) (sights_in_all es).scalars) h in
      append-true (is_no_local ds its) (sights_by (cond (are_at_once ds n true ts) sights_at_target sights_of_target) ts).scalars (sights_in_all es).scalars (targets-told its (are_at_once ds n true ts) ts r.0) r.1
  inner-told js its Skip f h = refl
  inner-told js its (DeclareEdge x y at) f h = refl
  inner-told js its s f h = absurd (both_ways false refl f)

  -- ---- what is written is no iterator

  abbrev pub Apart : List ℕ → Type 0
  Apart its = (x : ℕ) → Suit (use_as Written x) → is_in its x ≡ false

  no-one : (its : List ℕ) (x : ℕ) → is_in its x ≡ false → is_no_local ds its x ≡ true → nat_eq (depth_at ds x) 1 ≡ false
  no-one its x o h = by (is_in its x) (nat_eq (depth_at ds x) 1) o h
    where
      by : (a b : Bool) → a ≡ false → a || not b ≡ true → b ≡ false
      by true b o h = absurd (both_ways true o refl)
      by false true o h = absurd (both_ways false refl h)
      by false false o h = refl

  targets-spare : (its : List ℕ) → Apart its → (ts : List Target) → Suit (uses_of_targets ts) → list_all (target_passes (is_no_local ds) its) ts ≡ true → list_all (λ t. not (is_outer_local ds t)) ts ≡ true
  targets-spare its apart [] u h = refl
  targets-spare its apart (T.Scalar x at ∷ ts) u h =
      let v = all-append (suits ds) (use_as Written x) (uses_of_targets ts) u in
      let r = both-true (is_no_local ds its x) (list_all (target_passes (is_no_local ds) its) ts) h in
      and-true (not (nat_eq (depth_at ds x) 1)) (list_all (λ t. not (is_outer_local ds t)) ts) (ap not (no-one its x (apart x v.0) r.0)) (targets-spare its apart ts v.1 r.1)
  targets-spare its apart (T.Property x p at ∷ ts) u h =
      let v = all-append (suits ds) (use_as Owner x ++ use_as NodeValue p) (uses_of_targets ts) u in
      targets-spare its apart ts v.1 (both-true (is_no_local ds its x) (list_all (target_passes (is_no_local ds) its) ts) h).1

  inner-spares : (js its : List ℕ) → Apart its → (s : Stmt) → is_inner_body ds js true s ≡ true → Suit (uses_of s) → Free its s → spares_locals ds s ≡ true
  inner-spares js its apart (Then a b) f u h =
      let g = both-true (is_inner_body ds js true a) (is_inner_body ds js true b) f in
      let v = all-append (suits ds) (uses_of a) (uses_of b) u in
      let r = both-true (names_pass (is_no_local ds) its a) (names_pass (is_no_local ds) its b) h in
      and-true (spares_locals ds a) (spares_locals ds b) (inner-spares js its apart a g.0 v.0 r.0) (inner-spares js its apart b g.1 v.1 r.1)
  inner-spares js its apart (If k c a b) f u h =
      let e = both-true (is_flat js true c) (is_inner_body ds js true a && is_inner_body ds js true b) f in
      let g = both-true (is_inner_body ds js true a) (is_inner_body ds js true b) e.1 in
      let v = all-append (suits ds) (uses_of a) (uses_of b) (all-append (suits ds) (uses_in c) (uses_of a ++ uses_of b) u).1 in
      let q = both-true (list_all (is_no_local ds its) (told_in c)) (names_pass (is_no_local ds) its a && names_pass (is_no_local ds) its b) h in
      let r = both-true (names_pass (is_no_local ds) its a) (names_pass (is_no_local ds) its b) q.1 in
      and-true (spares_locals ds a) (spares_locals ds b) (inner-spares js its apart a g.0 v.0 r.0) (inner-spares js its apart b g.1 v.1 r.1)
  inner-spares js its apart (Combine k total o ts es) f u h =
      targets-spare its apart ts (all-append (suits ds) (uses_of_targets ts) (uses_in_all es) u).0 (both-true (list_all (target_passes (is_no_local ds) its) ts) (list_all (is_no_local ds its) (sights_in_all es).scalars) h).0
  inner-spares js its apart (Foreach k at hd test body) f u h = absurd (both_ways false refl f)
  inner-spares js its apart s f u h = refl

  -- ---- what it changes are properties

  abbrev IsProperty : ℕ → Type 0
  IsProperty y = has_role (variable_at ds y) NodeValue ≡ true

  abbrev Properties : List ℕ → Type 0
  Properties xs = (y : ℕ) → IsIn y xs → IsProperty y

  properties-both : (xs ys : List ℕ) → Properties xs → Properties ys → Properties (xs ++ ys)
  properties-both xs ys f g y i = ⊎_elim (f y) (g y) (in-either y xs ys i)

  one-property : (x p : ℕ) → Suit (use_as Owner x ++ use_as NodeValue p) → Properties (p ∷ [])
  one-property x p u y i = ⊎_elim (λ (e : y ≡ p). subst IsProperty (sym e) (use-of ds NodeValue p (all-append (suits ds) (use_as Owner x) (use_as NodeValue p) u).1).1) (λ j. absurd j) i

  -- kept by a reduction of an inner body
  targets-kept : (its : List ℕ) → Apart its → (ts : List Target) → Suit (uses_of_targets ts) → list_all (target_passes (is_no_local ds) its) ts ≡ true → Properties (variables_where (is_kept ds n) ts)
  targets-kept its apart [] u h y i = absurd i
  targets-kept its apart (T.Scalar x at ∷ ts) u h y i =
      let v = all-append (suits ds) (use_as Written x) (uses_of_targets ts) u in
      let r = both-true (is_no_local ds its x) (list_all (target_passes (is_no_local ds) its) ts) h in
      targets-kept its apart ts v.1 r.1 y (subst (λ b. IsIn y (cond b (x ∷ variables_where (is_kept ds n) ts) (variables_where (is_kept ds n) ts))) (no-one its x (apart x v.0) r.0) i)
  targets-kept its apart (T.Property x p at ∷ ts) u h y i =
      let v = all-append (suits ds) (use_as Owner x ++ use_as NodeValue p) (uses_of_targets ts) u in
      by (nat_eq x n) (one-property x p v.0) (targets-kept its apart ts v.1 (both-true (is_no_local ds its x) (list_all (target_passes (is_no_local ds) its) ts) h).1) i
    where
      by : (b : Bool) → Properties (p ∷ []) → Properties (variables_where (is_kept ds n) ts) → IsIn y (cond b (p ∷ variables_where (is_kept ds n) ts) (variables_where (is_kept ds n) ts)) → IsProperty y
      by true f g i = ⊎_elim (λ (e : y ≡ p). f y (inl e)) (g y) i
      by false f g i = g y i

  inner-kept : (js its : List ℕ) → Apart its → (s : Stmt) → is_inner_body ds js true s ≡ true → Suit (uses_of s) → Free its s → Properties (kept_in (reduced ds n true s))
  inner-kept js its apart (Then a b) f u h y i =
      let g = both-true (is_inner_body ds js true a) (is_inner_body ds js true b) f in
      let v = all-append (suits ds) (uses_of a) (uses_of b) u in
      let r = both-true (names_pass (is_no_local ds) its a) (names_pass (is_no_local ds) its b) h in
      properties-both (kept_in (reduced ds n true a)) (kept_in (reduced ds n true b)) (inner-kept js its apart a g.0 v.0 r.0) (inner-kept js its apart b g.1 v.1 r.1) y
      (subst (IsIn y) (kept-split (reduced ds n true a) (reduced ds n true b)) i)
  inner-kept js its apart (If k c a b) f u h y i =
      let e = both-true (is_flat js true c) (is_inner_body ds js true a && is_inner_body ds js true b) f in
      let g = both-true (is_inner_body ds js true a) (is_inner_body ds js true b) e.1 in
      let v = all-append (suits ds) (uses_of a) (uses_of b) (all-append (suits ds) (uses_in c) (uses_of a ++ uses_of b) u).1 in
      let q = both-true (list_all (is_no_local ds its) (told_in c)) (names_pass (is_no_local ds) its a && names_pass (is_no_local ds) its b) h in
      let r = both-true (names_pass (is_no_local ds) its a) (names_pass (is_no_local ds) its b) q.1 in
      properties-both (kept_in (reduced ds n true a)) (kept_in (reduced ds n true b)) (inner-kept js its apart a g.0 v.0 r.0) (inner-kept js its apart b g.1 v.1 r.1) y
      (subst (IsIn y) (kept-split (reduced ds n true a) (reduced ds n true b)) i)
  inner-kept js its apart (Combine k total o ts es) f u h y i =
      by (are_at_once ds n true ts) (targets-kept its apart ts (all-append (suits ds) (uses_of_targets ts) (uses_in_all es) u).0 (both-true (list_all (target_passes (is_no_local ds) its) ts) (list_all (is_no_local ds its) (sights_in_all es).scalars) h).0) i
    where
      by : (b : Bool) → Properties (variables_where (is_kept ds n) ts) → IsIn y (kept_in (cond b [] (reduced_by ds n total.key.statement o ts ∷ []))) → IsProperty y
      by true f i = absurd i
      by false f i = f y (subst (IsIn y) (append-nil (variables_where (is_kept ds n) ts)) i)
  inner-kept js its apart (Foreach k at hd test body) f u h y i = absurd (both_ways false refl f)
  inner-kept js its apart s f u h y i = absurd i

  -- an iterator
  iterator-apart : (t : ℕ) → has_role (variable_at ds t) Iterates ≡ true → (x : ℕ) → Suit (use_as Written x) → nat_eq x t ≡ false
  iterator-apart t it x u = by (nat_eq x t) refl
    where
      by : (b : Bool) → nat_eq x t ≡ b → b ≡ false
      by true e =
          absurd (touched-apart ds t it (Assign first_key (T.Scalar t (record { line = 0; col = 0 })) NodeCount) (subst (λ z. Suit (use_as Written z)) (eqb-true x t e) u) (inl refl))
      by false e = refl

  pub written-apart : Apart (n ∷ [])
  written-apart x u = ap (λ b. b || false) (iterator-apart n iterates x u)

  pub inner-apart : (t : ℕ) → has_role (variable_at ds t) Iterates ≡ true → Apart (n ∷ t ∷ [])
  inner-apart t it x u = ap (λ b. b || (nat_eq x t || false)) (iterator-apart n iterates x u) ∙ ap (λ b. b || false) (iterator-apart t it x u)

  -- ---- inner loops

  pub loops-apart : (s : Stmt) → is_outer_body ds false n s ≡ true → Suit (uses_of s) → Free (n ∷ []) s → inner_loops_apart ds n s ≡ true
  loops-apart (Then a b) f u h =
      let g = both-true (is_outer_body ds false n a) (is_outer_body ds false n b) f in
      let v = all-append (suits ds) (uses_of a) (uses_of b) u in
      let r = both-true (names_pass (is_no_local ds) (n ∷ []) a) (names_pass (is_no_local ds) (n ∷ []) b) h in
      and-true (inner_loops_apart ds n a) (inner_loops_apart ds n b) (loops-apart a g.0 v.0 r.0) (loops-apart b g.1 v.1 r.1)
  loops-apart (If k c a b) f u h =
      let e = both-true (is_flat (n ∷ []) false c) (is_outer_body ds false n a && is_outer_body ds false n b) f in
      let g = both-true (is_outer_body ds false n a) (is_outer_body ds false n b) e.1 in
      let v = all-append (suits ds) (uses_of a) (uses_of b) (all-append (suits ds) (uses_in c) (uses_of a ++ uses_of b) u).1 in
      let q = both-true (list_all (is_no_local ds (n ∷ [])) (told_in c)) (names_pass (is_no_local ds) (n ∷ []) a && names_pass (is_no_local ds) (n ∷ []) b) h in
      let r = both-true (names_pass (is_no_local ds) (n ∷ []) a) (names_pass (is_no_local ds) (n ∷ []) b) q.1 in
      and-true (inner_loops_apart ds n a) (inner_loops_apart ds n b) (loops-apart a g.0 v.0 r.0) (loops-apart b g.1 v.1 r.1)
  loops-apart (Foreach k at hd test body) f u h =
      let t = hd.iterator in
      let its = n ∷ (t ∷ []) in
      let g = both-true (is_inner_head false n hd) (is_flat its true test && is_inner_body ds its true body) f in
      let i = both-true (is_flat its true test) (is_inner_body ds its true body) g.1 in
      let v = all-append (suits ds) (uses_of_head hd) (uses_in test ++ uses_of body) u in
      let w = all-append (suits ds) (uses_in test) (uses_of body) v.1 in
      let q = both-true (is_no_local ds (n ∷ []) hd.owner) (list_all (is_no_local ds its) (told_in test) && names_pass (is_no_local ds) its body) h in
      let r = both-true (list_all (is_no_local ds its) (told_in test)) (names_pass (is_no_local ds) its body) q.1 in
      and-true (list_all (is_no_local ds its) (told_in test ++ (sights_of ds n true body).scalars)) (spares_locals ds body)
      (append-true (is_no_local ds its) (told_in test) (sights_of ds n true body).scalars r.0 (inner-told its its body i.1 r.1))
      (inner-spares its its (inner-apart t (iterates-of ds k at hd test body u)) body i.1 w.1 r.1)
  loops-apart s f u h = refl

  -- ---- what the whole changes

  outer-kept : (s : Stmt) → is_outer_body ds false n s ≡ true → Suit (uses_of s) → Free (n ∷ []) s → Properties (kept_in (reduced ds n false s))
  outer-kept (Then a b) f u h y i =
      let g = both-true (is_outer_body ds false n a) (is_outer_body ds false n b) f in
      let v = all-append (suits ds) (uses_of a) (uses_of b) u in
      let r = both-true (names_pass (is_no_local ds) (n ∷ []) a) (names_pass (is_no_local ds) (n ∷ []) b) h in
      properties-both (kept_in (reduced ds n false a)) (kept_in (reduced ds n false b)) (outer-kept a g.0 v.0 r.0) (outer-kept b g.1 v.1 r.1) y
      (subst (IsIn y) (kept-split (reduced ds n false a) (reduced ds n false b)) i)
  outer-kept (If k c a b) f u h y i =
      let e = both-true (is_flat (n ∷ []) false c) (is_outer_body ds false n a && is_outer_body ds false n b) f in
      let g = both-true (is_outer_body ds false n a) (is_outer_body ds false n b) e.1 in
      let v = all-append (suits ds) (uses_of a) (uses_of b) (all-append (suits ds) (uses_in c) (uses_of a ++ uses_of b) u).1 in
      let q = both-true (list_all (is_no_local ds (n ∷ [])) (told_in c)) (names_pass (is_no_local ds) (n ∷ []) a && names_pass (is_no_local ds) (n ∷ []) b) h in
      let r = both-true (names_pass (is_no_local ds) (n ∷ []) a) (names_pass (is_no_local ds) (n ∷ []) b) q.1 in
      properties-both (kept_in (reduced ds n false a)) (kept_in (reduced ds n false b)) (outer-kept a g.0 v.0 r.0) (outer-kept b g.1 v.1 r.1) y
      (subst (IsIn y) (kept-split (reduced ds n false a) (reduced ds n false b)) i)
  outer-kept (Combine k total o ts es) f u h y i =
      by (are_at_once ds n false ts) (targets-kept (n ∷ []) written-apart ts (all-append (suits ds) (uses_of_targets ts) (uses_in_all es) u).0 (both-true (list_all (target_passes (is_no_local ds) (n ∷ [])) ts) (list_all (is_no_local ds (n ∷ [])) (sights_in_all es).scalars) h).0) i
    where
      by : (b : Bool) → Properties (variables_where (is_kept ds n) ts) → IsIn y (kept_in (cond b [] (reduced_by ds n total.key.statement o ts ∷ []))) → IsProperty y
      by true f i = absurd i
      by false f i = f y (subst (IsIn y) (append-nil (variables_where (is_kept ds n) ts)) i)
  outer-kept (Foreach k at hd test body) f u h y i =
      let t = hd.iterator in
      let its = n ∷ (t ∷ []) in
      let g = both-true (is_inner_head false n hd) (is_flat its true test && is_inner_body ds its true body) f in
      let v = all-append (suits ds) (uses_in test) (uses_of body) (all-append (suits ds) (uses_of_head hd) (uses_in test ++ uses_of body) u).1 in
      let q = both-true (is_no_local ds (n ∷ []) hd.owner) (list_all (is_no_local ds its) (told_in test) && names_pass (is_no_local ds) its body) h in
      inner-kept its its (inner-apart t (iterates-of ds k at hd test body u)) body (both-true (is_flat its true test) (is_inner_body ds its true body) g.1).1 v.1 (both-true (list_all (is_no_local ds its) (told_in test)) (names_pass (is_no_local ds) its body) q.1).1 y i
  outer-kept s f u h y i = absurd i

  abbrev Within : List Target → Type 0
  Within ts = (list_all (is_given ds n) ts ≡ true) ⊎ (list_all (is_within ds 1) ts ≡ true)

  rest-within : (t : Target) (ts : List Target) → Within (t ∷ ts) → Within ts
  rest-within t ts w = ⊎_elim (λ g. inl (both-true (is_given ds n t) (list_all (is_given ds n) ts) g).1) (λ g. inr (both-true (is_within ds 1 t) (list_all (is_within ds 1) ts) g).1) w

  targets-left : (ts : List Target) → are_at_once ds n false ts ≡ true → Within ts → Suit (uses_of_targets ts) → list_all (target_passes (is_no_local ds) (n ∷ [])) ts ≡ true → Properties (variables_of ts)
  targets-left [] o w u h y i = absurd i
  targets-left (T.Scalar x at ∷ ts) o w u h y i =
      let v = all-append (suits ds) (use_as Written x) (uses_of_targets ts) u in
      let r = both-true (is_no_local ds (n ∷ []) x) (list_all (target_passes (is_no_local ds) (n ∷ [])) ts) h in
      let d = both-true (not (nat_eq (depth_at ds x) 0)) (are_at_once ds n false ts) o in
      absurd (⊎_elim (λ g. given (depth_at ds x) d.0 (both-true (nat_eq (depth_at ds x) 0) (list_all (is_given ds n) ts) g).0)
      (λ g. within (depth_at ds x) d.0 (no-one (n ∷ []) x (written-apart x v.0) r.0) (both-true (nat_le (depth_at ds x) 1) (list_all (is_within ds 1) ts) g).0) w)
    where
      given : (d : ℕ) → not (nat_eq d 0) ≡ true → nat_eq d 0 ≡ true → ⊥
      given d o e = both_ways false refl (ap not (sym e) ∙ o)

      within : (d : ℕ) → not (nat_eq d 0) ≡ true → nat_eq d 1 ≡ false → nat_le d 1 ≡ true → ⊥
      within d o e l = grind (arith, nat_tests, o, e, l)
  targets-left (T.Property x p at ∷ ts) o w u h y i =
      let v = all-append (suits ds) (use_as Owner x ++ use_as NodeValue p) (uses_of_targets ts) u in
      let r = both-true (is_no_local ds (n ∷ []) x) (list_all (target_passes (is_no_local ds) (n ∷ [])) ts) h in
      let d = both-true (nat_eq x n) (are_at_once ds n false ts) o in
      ⊎_elim (λ (e : y ≡ p). one-property x p v.0 y (inl e)) (λ j. targets-left ts d.1 (rest-within (T.Property x p at) ts w) v.1 r.1 y j) i

  no-declared : (x : ℕ) → (x ≡ n → ⊥) → nat_eq (depth_at ds x) 1 ≡ true → is_no_local ds (n ∷ []) x ≡ true → ⊥
  no-declared x off d h = by (nat_eq x n) (nat_eq (depth_at ds x) 1) (λ e. off (eqb-true x n e)) d h
    where
      by : (a b : Bool) → (a ≡ true → ⊥) → b ≡ true → (a || false) || not b ≡ true → ⊥
      by true b o d h = o refl
      by false true o d h = both_ways false refl h
      by false false o d h = both_ways false refl d

  leaves : (s : Stmt) → is_outer_body ds false n s ≡ true → Suit (uses_of s) → Free (n ∷ []) s → Properties (left ds n s)
  leaves (Then a b) f u h y i =
      let g = both-true (is_outer_body ds false n a) (is_outer_body ds false n b) f in
      let v = all-append (suits ds) (uses_of a) (uses_of b) u in
      let r = both-true (names_pass (is_no_local ds) (n ∷ []) a) (names_pass (is_no_local ds) (n ∷ []) b) h in
      properties-both (left ds n a) (left ds n b) (leaves a g.0 v.0 r.0) (leaves b g.1 v.1 r.1) y i
  leaves (If k c a b) f u h y i =
      let e = both-true (is_flat (n ∷ []) false c) (is_outer_body ds false n a && is_outer_body ds false n b) f in
      let g = both-true (is_outer_body ds false n a) (is_outer_body ds false n b) e.1 in
      let v = all-append (suits ds) (uses_of a) (uses_of b) (all-append (suits ds) (uses_in c) (uses_of a ++ uses_of b) u).1 in
      let q = both-true (list_all (is_no_local ds (n ∷ [])) (told_in c)) (names_pass (is_no_local ds) (n ∷ []) a && names_pass (is_no_local ds) (n ∷ []) b) h in
      let r = both-true (names_pass (is_no_local ds) (n ∷ []) a) (names_pass (is_no_local ds) (n ∷ []) b) q.1 in
      properties-both (left ds n a) (left ds n b) (leaves a g.0 v.0 r.0) (leaves b g.1 v.1 r.1) y i
  leaves (Declare k x e) f u h y i =
      absurd (no-declared x (λ (o : x ≡ n). touched-apart ds n iterates (Declare k x e) u (inl (sym o))) (both-true (nat_eq (depth_at ds x) 1) (may (is_flat (n ∷ []) false) e) f).0 (both-true (is_no_local ds (n ∷ []) x) (list_all (is_no_local ds (n ∷ [])) (sights_in_option e).scalars) h).0)
  leaves (Assign k (T.Scalar x at) e) f u h y i =
      absurd (no-declared x (λ (o : x ≡ n). touched-apart ds n iterates (Assign k (T.Scalar x at) e) u (inl (sym o))) (both-true (nat_eq (depth_at ds x) 1) (is_flat (n ∷ []) false e) f).0 (both-true (is_no_local ds (n ∷ []) x) (list_all (is_no_local ds (n ∷ [])) (told_in e)) h).0)
  leaves (Assign k (T.Property x p at) e) f u h y i = one-property x p (all-append (suits ds) (use_as Owner x ++ use_as NodeValue p) (uses_in e) u).0 y i
  leaves (Combine k total o ts es) f u h y i = by (are_at_once ds n false ts) refl i
    where
      r : (Suit (uses_of_targets ts)) × (Suit (uses_in_all es))
      r = all-append (suits ds) (uses_of_targets ts) (uses_in_all es) u

      within : Within ts
      within =
          ⊎_elim (λ g. inl g) (λ g. inr (both-true (keeps_tuples o) (list_all (is_within ds 1) ts) g).1)
          (either-true (list_all (is_given ds n) ts) (keeps_tuples o && list_all (is_within ds 1) ts) (both-true (are_reduced (is_given ds n) (is_within ds 1) o ts) (list_all (is_flat (n ∷ []) false) es) f).0)

      by : (b : Bool) → are_at_once ds n false ts ≡ b → IsIn y (cond b (variables_of ts) []) → IsProperty y
      by true e i = targets-left ts e within r.0 (both-true (list_all (target_passes (is_no_local ds) (n ∷ [])) ts) (list_all (is_no_local ds (n ∷ [])) (sights_in_all es).scalars) h).0 y i
      by false e i = absurd i
  leaves s f u h y i = absurd i

  listed : (xs : List ℕ) → Properties xs → list_all (λ x. sort_eq Sorts.NodeProperty (variable_at ds x).sort) xs ≡ true
  listed [] f = refl
  listed (x ∷ xs) f = and-true (sort_eq Sorts.NodeProperty (variable_at ds x).sort) (list_all (λ x. sort_eq Sorts.NodeProperty (variable_at ds x).sort) xs) (f x (inl refl)) (listed xs (λ y i. f y (inr i)))

  pub changes-none : (s : Stmt) → is_outer_body ds false n s ≡ true → Suit (uses_of s) → Free (n ∷ []) s → targets_alike s ≡ true → reduces_evenly ds s ≡ true → changes_no_scalar ds n s ≡ true
  changes-none s f u h a e =
      listed (changed ds n s) (properties-both (left ds n s) (owned_in (reduced ds n false s)) (leaves s f u h) (λ y i. outer-kept s f u h y (owned-kept ds n (reduced ds n false s) (all-clear ds n false s a e) y i)))

  -- no local goes from a part into another
  pub stays-within : (s : Stmt) → is_outer_body ds false n s ≡ true → Suit (uses_of s) → Free (n ∷ []) s → targets_alike s ≡ true → reduces_evenly ds s ≡ true → locals_stay_within ds n s ≡ true
  stays-within (Then a b) f u h k e =
      let g = both-true (is_outer_body ds false n a) (is_outer_body ds false n b) f in
      let v = all-append (suits ds) (uses_of a) (uses_of b) u in
      let r = both-true (names_pass (is_no_local ds) (n ∷ []) a) (names_pass (is_no_local ds) (n ∷ []) b) h in
      let l = both-true (targets_alike a) (targets_alike b) k in
      let m = both-true (reduces_evenly ds a) (reduces_evenly ds b) e in
      orelse (is_own_loop n (Then a b)) (locals_stay ds n a b && (locals_stay_within ds n a && locals_stay_within ds n b))
      (and-true (locals_stay ds n a b) (locals_stay_within ds n a && locals_stay_within ds n b) (none-across ds n a b iterates v.1 g.1 (changes-none a g.0 v.0 r.0 l.0 m.0))
      (and-true (locals_stay_within ds n a) (locals_stay_within ds n b) (stays-within a g.0 v.0 r.0 l.0 m.0) (stays-within b g.1 v.1 r.1 l.1 m.1)))
    where
      orelse : (x y : Bool) → y ≡ true → x || y ≡ true
      orelse true y h = refl
      orelse false y h = h
  stays-within (If j c a b) f u h k e =
      let i = both-true (is_flat (n ∷ []) false c) (is_outer_body ds false n a && is_outer_body ds false n b) f in
      let g = both-true (is_outer_body ds false n a) (is_outer_body ds false n b) i.1 in
      let v = all-append (suits ds) (uses_of a) (uses_of b) (all-append (suits ds) (uses_in c) (uses_of a ++ uses_of b) u).1 in
      let q = both-true (list_all (is_no_local ds (n ∷ [])) (told_in c)) (names_pass (is_no_local ds) (n ∷ []) a && names_pass (is_no_local ds) (n ∷ []) b) h in
      let r = both-true (names_pass (is_no_local ds) (n ∷ []) a) (names_pass (is_no_local ds) (n ∷ []) b) q.1 in
      let l = both-true (targets_alike a) (targets_alike b) k in
      let m = both-true (reduces_evenly ds a) (reduces_evenly ds b) e in
      orelse (is_own_loop n (If j c a b)) (locals_stay ds n a b && (locals_stay_within ds n a && locals_stay_within ds n b))
      (and-true (locals_stay ds n a b) (locals_stay_within ds n a && locals_stay_within ds n b) (none-across ds n a b iterates v.1 g.1 (changes-none a g.0 v.0 r.0 l.0 m.0))
      (and-true (locals_stay_within ds n a) (locals_stay_within ds n b) (stays-within a g.0 v.0 r.0 l.0 m.0) (stays-within b g.1 v.1 r.1 l.1 m.1)))
    where
      orelse : (x y : Bool) → y ≡ true → x || y ≡ true
      orelse true y h = refl
      orelse false y h = h
  stays-within s f u h k e = refl

  -- ---- a local of the outer body is neither told nor reduced

  pub record Deep (y : ℕ) : Type 0 where
    pub written : list_all (suits ds) (use_as Written y) ≡ true
    pub deep : nat_eq (depth_at ds y) 1 ≡ true

  pub not-told : (its : List ℕ) → Apart its → (xs : List ℕ) → list_all (is_no_local ds its) xs ≡ true → (y : ℕ) → Deep y → IsIn y xs → ⊥
  not-told its apart [] h y d i = i
  not-told its apart (x ∷ xs) h y d i =
      let r = both-true (is_no_local ds its x) (list_all (is_no_local ds its) xs) h in
      ⊎_elim (λ (e : y ≡ x). both_ways (nat_eq (depth_at ds y) 1) (no-one its y (apart y d.written) (subst (λ w. is_no_local ds its w ≡ true) (sym e) r.0)) d.deep) (λ j. not-told its apart xs r.1 y d j) i

  pub plain-told : (s : Stmt) → is_outer_body ds false n s ≡ true → Suit (uses_of s) → Free (n ∷ []) s → (y : ℕ) → Deep y → IsIn y (sights_of ds n false s).scalars → ⊥
  plain-told (Then a b) f u h y d i =
      let g = both-true (is_outer_body ds false n a) (is_outer_body ds false n b) f in
      let v = all-append (suits ds) (uses_of a) (uses_of b) u in
      let r = both-true (names_pass (is_no_local ds) (n ∷ []) a) (names_pass (is_no_local ds) (n ∷ []) b) h in
      ⊎_elim (plain-told a g.0 v.0 r.0 y d) (plain-told b g.1 v.1 r.1 y d) (in-either y (sights_of ds n false a).scalars (sights_of ds n false b).scalars i)
  plain-told (If k c a b) f u h y d i =
      let e = both-true (is_flat (n ∷ []) false c) (is_outer_body ds false n a && is_outer_body ds false n b) f in
      let g = both-true (is_outer_body ds false n a) (is_outer_body ds false n b) e.1 in
      let v = all-append (suits ds) (uses_of a) (uses_of b) (all-append (suits ds) (uses_in c) (uses_of a ++ uses_of b) u).1 in
      let q = both-true (list_all (is_no_local ds (n ∷ [])) (told_in c)) (names_pass (is_no_local ds) (n ∷ []) a && names_pass (is_no_local ds) (n ∷ []) b) h in
      let r = both-true (names_pass (is_no_local ds) (n ∷ []) a) (names_pass (is_no_local ds) (n ∷ []) b) q.1 in
      ⊎_elim (not-told (n ∷ []) written-apart (told_in c) q.0 y d)
      (λ j. ⊎_elim (plain-told a g.0 v.0 r.0 y d) (plain-told b g.1 v.1 r.1 y d) (in-either y (sights_of ds n false a).scalars (sights_of ds n false b).scalars j)) (in-either y (told_in c) ((sights_of ds n false a).scalars ++ (sights_of ds n false b).scalars) i)
  plain-told (Declare k x None) f u h y d i = i
  plain-told (Declare k x (Some e)) f u h y d i = not-told (n ∷ []) written-apart (told_in e) (both-true (is_no_local ds (n ∷ []) x) (list_all (is_no_local ds (n ∷ [])) (told_in e)) h).1 y d i
  plain-told (Assign k t e) f u h y d i =
      let r = both-true (target_passes (is_no_local ds) (n ∷ []) t) (list_all (is_no_local ds (n ∷ [])) (told_in e)) h in
      not-told (n ∷ []) written-apart ((sights_of_target t).scalars ++ told_in e) (append-true (is_no_local ds (n ∷ [])) (sights_of_target t).scalars (told_in e) (target-only (n ∷ []) t r.0) r.1) y d i
  plain-told (Defer k t e) f u h y d i =
      let r = both-true (target_passes (is_no_local ds) (n ∷ []) t) (list_all (is_no_local ds (n ∷ [])) (told_in e)) h in
      not-told (n ∷ []) written-apart ((sights_of_target t).scalars ++ told_in e) (append-true (is_no_local ds (n ∷ [])) (sights_of_target t).scalars (told_in e) (target-only (n ∷ []) t r.0) r.1) y d i
  plain-told (Combine k total o ts es) f u h y d i =
      let r = both-true (list_all (target_passes (is_no_local ds) (n ∷ [])) ts) (list_all (is_no_local ds (n ∷ [])) (sights_in_all es).scalars) h in
      let once = are_at_once ds n false ts in
      not-told (n ∷ []) written-apart ((sights_by (cond once sights_at_target sights_of_target) ts).scalars ++ (sights_in_all es).scalars)
      (append-true (is_no_local ds (n ∷ [])) (sights_by (cond once sights_at_target sights_of_target) ts).scalars (sights_in_all es).scalars (targets-told (n ∷ []) once ts r.0) r.1) y d i
  plain-told (Foreach k at hd test body) f u h y d i =
      let t = hd.iterator in
      let its = n ∷ (t ∷ []) in
      let g = both-true (is_inner_head false n hd) (is_flat its true test && is_inner_body ds its true body) f in
      let e = both-true (is_flat its true test) (is_inner_body ds its true body) g.1 in
      let q = both-true (is_no_local ds (n ∷ []) hd.owner) (list_all (is_no_local ds its) (told_in test) && names_pass (is_no_local ds) its body) h in
      let r = both-true (list_all (is_no_local ds its) (told_in test)) (names_pass (is_no_local ds) its body) q.1 in
      ⊎_elim (λ (o : y ≡ hd.owner). not-told (n ∷ []) written-apart (hd.owner ∷ []) (and-true (is_no_local ds (n ∷ []) hd.owner) true q.0 refl) y d (inl o))
      (not-told its (inner-apart t (iterates-of ds k at hd test body u)) (told_in test ++ (sights_of ds n true body).scalars) (append-true (is_no_local ds its) (told_in test) (sights_of ds n true body).scalars r.0 (inner-told its its body e.1 r.1)) y d) i
  plain-told Skip f u h y d i = i
  plain-told s f u h y d i = absurd (both_ways false refl f)

  -- the locals of targets are named
  targets-spared : (its : List ℕ) → Apart its → (ts : List Target) → list_all (target_passes (is_no_local ds) its) ts ≡ true → (y : ℕ) → Deep y → IsIn y (Fission.locals_of ds ts) → ⊥
  targets-spared its apart [] h y d i = i
  targets-spared its apart (T.Scalar x at ∷ ts) h y d i =
      let r = both-true (is_no_local ds its x) (list_all (target_passes (is_no_local ds) its) ts) h in by (nat_eq (depth_at ds x) 0) (targets-spared its apart ts r.1 y d) i r.0
    where
      by : (b : Bool) → (IsIn y (Fission.locals_of ds ts) → ⊥) → IsIn y (cond b (Fission.locals_of ds ts) (x ∷ Fission.locals_of ds ts)) → is_no_local ds its x ≡ true → ⊥
      by true f i g = f i
      by false f i g = ⊎_elim (λ (e : y ≡ x). not-told its apart (x ∷ []) (and-true (is_no_local ds its x) true g refl) y d (inl e)) f i
  targets-spared its apart (T.Property x p at ∷ ts) h y d i = targets-spared its apart ts (both-true (is_no_local ds its x) (list_all (target_passes (is_no_local ds) its) ts) h).1 y d i

  inner-spared : (js its : List ℕ) → Apart its → (s : Stmt) → is_inner_body ds js true s ≡ true → Free its s → (y : ℕ) → Deep y → IsIn y (reduced_locals ds s) → ⊥
  inner-spared js its apart (Then a b) f h y d i =
      let g = both-true (is_inner_body ds js true a) (is_inner_body ds js true b) f in
      let r = both-true (names_pass (is_no_local ds) its a) (names_pass (is_no_local ds) its b) h in
      ⊎_elim (inner-spared js its apart a g.0 r.0 y d) (inner-spared js its apart b g.1 r.1 y d) (in-either y (reduced_locals ds a) (reduced_locals ds b) i)
  inner-spared js its apart (If k c a b) f h y d i =
      let e = both-true (is_flat js true c) (is_inner_body ds js true a && is_inner_body ds js true b) f in
      let g = both-true (is_inner_body ds js true a) (is_inner_body ds js true b) e.1 in
      let q = both-true (list_all (is_no_local ds its) (told_in c)) (names_pass (is_no_local ds) its a && names_pass (is_no_local ds) its b) h in
      let r = both-true (names_pass (is_no_local ds) its a) (names_pass (is_no_local ds) its b) q.1 in
      ⊎_elim (inner-spared js its apart a g.0 r.0 y d) (inner-spared js its apart b g.1 r.1 y d) (in-either y (reduced_locals ds a) (reduced_locals ds b) i)
  inner-spared js its apart (Combine k total o ts es) f h y d i = targets-spared its apart ts (both-true (list_all (target_passes (is_no_local ds) its) ts) (list_all (is_no_local ds its) (sights_in_all es).scalars) h).0 y d i
  inner-spared js its apart (Foreach k at hd test body) f h y d i = absurd (both_ways false refl f)
  inner-spared js its apart s f h y d i = i

  pub plain-spared : (s : Stmt) → is_outer_body ds false n s ≡ true → Suit (uses_of s) → Free (n ∷ []) s → (y : ℕ) → Deep y → IsIn y (reduced_locals ds s) → ⊥
  plain-spared (Then a b) f u h y d i =
      let g = both-true (is_outer_body ds false n a) (is_outer_body ds false n b) f in
      let v = all-append (suits ds) (uses_of a) (uses_of b) u in
      let r = both-true (names_pass (is_no_local ds) (n ∷ []) a) (names_pass (is_no_local ds) (n ∷ []) b) h in
      ⊎_elim (plain-spared a g.0 v.0 r.0 y d) (plain-spared b g.1 v.1 r.1 y d) (in-either y (reduced_locals ds a) (reduced_locals ds b) i)
  plain-spared (If k c a b) f u h y d i =
      let e = both-true (is_flat (n ∷ []) false c) (is_outer_body ds false n a && is_outer_body ds false n b) f in
      let g = both-true (is_outer_body ds false n a) (is_outer_body ds false n b) e.1 in
      let v = all-append (suits ds) (uses_of a) (uses_of b) (all-append (suits ds) (uses_in c) (uses_of a ++ uses_of b) u).1 in
      let q = both-true (list_all (is_no_local ds (n ∷ [])) (told_in c)) (names_pass (is_no_local ds) (n ∷ []) a && names_pass (is_no_local ds) (n ∷ []) b) h in
      let r = both-true (names_pass (is_no_local ds) (n ∷ []) a) (names_pass (is_no_local ds) (n ∷ []) b) q.1 in
      ⊎_elim (plain-spared a g.0 v.0 r.0 y d) (plain-spared b g.1 v.1 r.1 y d) (in-either y (reduced_locals ds a) (reduced_locals ds b) i)
  plain-spared (Combine k total o ts es) f u h y d i = targets-spared (n ∷ []) written-apart ts (both-true (list_all (target_passes (is_no_local ds) (n ∷ [])) ts) (list_all (is_no_local ds (n ∷ [])) (sights_in_all es).scalars) h).0 y d i
  plain-spared (Foreach k at hd test body) f u h y d i =
      let t = hd.iterator in
      let its = n ∷ (t ∷ []) in
      let g = both-true (is_inner_head false n hd) (is_flat its true test && is_inner_body ds its true body) f in
      let q = both-true (is_no_local ds (n ∷ []) hd.owner) (list_all (is_no_local ds its) (told_in test) && names_pass (is_no_local ds) its body) h in
      inner-spared its its (inner-apart t (iterates-of ds k at hd test body u)) body (both-true (is_flat its true test) (is_inner_body ds its true body) g.1).1 (both-true (list_all (is_no_local ds its) (told_in test)) (names_pass (is_no_local ds) its body) q.1).1 y d i
  plain-spared s f u h y d i = i
