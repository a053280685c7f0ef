-- Statements whose expressions stand in place of others.
use Rattle.std.proofs.Common.{◌≡◌, ℕ, Bool, true, false, List, [], ◌∷◌, ◌++◌, map, refl, ap, ◌∙◌, Option, Some, None, Result}
use Rattle.std.specs.Prelude.{◌&&◌, nat_eq, option_map}
use Rattle.std.specs.List.{list_all}
use Rattle.std.proofs.Math.Path.{fun_ext}
use Rattle.std.proofs.lemmas.Bool.{both_ways}
use Rattle.gm_base.specs.declared.places.Place.{Place}
use Rattle.gm_value.specs.declared.reductions.Reduce.{Reduce}
use Rattle.gm_value.specs.declared.values.VType.{VType}
use Rattle.gm_value.specs.declared.values.Value.{Value}
use Rattle.gm_ast.specs.declared.tree.Declaration.{Declaration}
use Rattle.gm_ast.specs.declared.tree.Key.{Key}
use Rattle.gm_ast.specs.declared.tree.Target.{Target}
use Rattle.gm_ast.specs.declared.tree.Target.TheVariants as T
use Rattle.gm_ast.specs.declared.tree.TotalKey.{TotalKey}
use Rattle.gm_ast.specs.Keys as K
use Rattle.gm_ast.specs.Keys.{total_fault}
use Rattle.gm_ast.specs.Program.{Expr, always, Stmt, Then, Declare, Assign, Defer, Combine, Group, Foreach, For, If, While, Do, InBfs, InBfsBoth, Return}
use Rattle.gm_semantics.specs.declared.faults.Fault.{Fault}
use Rattle.gm_semantics.specs.declared.slots.Slot.{Slot}
use Rattle.gm_semantics.specs.declared.slots.Slot.TheVariants.{Scalar}
use Rattle.gm_semantics.specs.Expressions.{Answer, Evaluated, AllEvaluated, View, and_all, evaluated, evaluated_all}
use Rattle.gm_semantics.specs.Iterations.{Ends, AtOnce, WithInner, WithOutermost, Iteration, with_ok, view_in, assigned, assigned_all, target_value, combined_by, closed_by, alone, together, at_once, ends_of_all, contribution, gave_inner, gave_outermost, deferred_to, wrote, wrote_all, reduced, outer_only}
use Rattle.gm_semantics.specs.Levels.{nodes, no_levels}
use Rattle.gm_semantics.specs.Statements.{Returns, view_of, with_value, with_store, writes, writes_all}
use Rattle.gm_semantics.specs.Stores.{write}
use Rattle.gm_forms.specs.Forms.{depth_at, is_within, is_flat}
use Rattle.gm_forms.specs.Order.{lie_before, hoisted_in, faults_in, in_order, faults_in_all, hoisted_in_all, all_in_order, target_faults, targets_faults, folds_in_order, all_folds, fault_of, are_numbered}
use Rattle.gm_forms.specs.Ready.{is_outer_expr, is_phase_expr, is_at_depth, is_inner_code, is_outer_code}
use Rattle.gm_forms.specs.Sharing.{with_reads, sights_in, sights_in_all, sights_of_target, sights_of_targets, level_reads_in, level_reads_in_all}
use Rattle.gm_forms.specs.Typing.{type_at, target_type, has_type, all_have_types, fits_targets, returns_type}
use Rattle.gm_forms.specs.Uses.{Written, Iterates, NodeValue, use_as, suits, uses_in, uses_in_all, uses_of_target, uses_of_targets}
use Rattle.gm_forms.proofs.Named.{both-true, all-append}
use Rattle.gm_forms.proofs.Weaker.{and-true}
use Rattle.gm_desugar.specs.Literals.{each_expr_in, each_expr}
use Rattle.gm_desugar.proofs.Fewer.{Fewer, FewerSights, same-sights, sights-both, lie-fewer, fewer-both, FewerReads, reads-both, numbered-fewer}
use Rattle.gm_desugar.proofs.Replacing.{append-true, ForExpr, ForBody, ForPhase, loop_at, mode_at, value-same, typed-same, order-same, faults-fewer, expr-same, body-same, body-then, body-if, body-foreach, loops-same, loop-shared, phase-same, phase-then, phase-foreach, phase-for, phase-if, phase-while, phase-do, phase-search, phase-search-both}

module _ (ds : List Declaration) (f : Expr → Expr) (r : (e : Expr) → ForExpr ds e (f e)) where
  -- several expressions
  all-evaluated : (es : List Expr) (w : View) → evaluated_all (map f es) w ≡ evaluated_all es w
  all-evaluated [] w = refl
  all-evaluated (e ∷ es) w =
      ap (λ (x : Evaluated). and_all x (evaluated_all (map f es) w)) ((r e).same w) ∙ ap (and_all (evaluated e w)) (all-evaluated es w)

  all-named : (es : List Expr) → list_all (suits ds) (uses_in_all es) ≡ true → list_all (suits ds) (uses_in_all (map f es)) ≡ true
  all-named [] h = h
  all-named (e ∷ es) h = let u = all-append (suits ds) (uses_in e) (uses_in_all es) h in append-true (suits ds) (uses_in (f e)) (uses_in_all (map f es)) ((r e).named u.0) (all-named es u.1)

  all-typed : (ts : List Target) (es : List Expr) → all_have_types ds ts es ≡ true → all_have_types ds ts (map f es) ≡ true
  all-typed [] [] h = h
  all-typed [] (e ∷ es) h = h
  all-typed (t ∷ ts) [] h = h
  all-typed (t ∷ ts) (e ∷ es) h =
      let u = both-true (has_type ds (target_type ds t) e) (all_have_types ds ts es) h in
      and-true (has_type ds (target_type ds t) (f e)) (all_have_types ds ts (map f es)) (typed-same ds e (f e) (r e) (target_type ds t) u.0) (all-typed ts es u.1)

  all-faults : (es : List Expr) (k : Key) → Fewer (faults_in_all (map f es) k) (faults_in_all es k)
  all-faults [] k = λ x i. i
  all-faults (e ∷ es) k = fewer-both (faults_in e k) (faults_in_all es k) (faults_in (f e) k) (faults_in_all (map f es) k) (faults-fewer ds e (f e) (r e) k) (all-faults es k)

  all-hoisted : (es : List Expr) → Fewer (hoisted_in_all (map f es)) (hoisted_in_all es)
  all-hoisted [] = λ x i. i
  all-hoisted (e ∷ es) = fewer-both (hoisted_in e) (hoisted_in_all es) (hoisted_in (f e)) (hoisted_in_all (map f es)) (r e).hoisted (all-hoisted es)

  all-ordered : (es : List Expr) (k : Key) → all_in_order es k ≡ true → all_in_order (map f es) k ≡ true
  all-ordered [] k h = h
  all-ordered (e ∷ es) k h = let u = both-true (in_order e k) (all_in_order es k) h in and-true (in_order (f e) k) (all_in_order (map f es) k) (order-same ds e (f e) (r e) k u.0) (all-ordered es k u.1)

  all-folds : (es : List Expr) → all_folds es ≡ true → all_folds (map f es) ≡ true
  all-folds [] h = h
  all-folds (e ∷ es) h = let u = both-true (folds_in_order e) (all_folds es) h in and-true (folds_in_order (f e)) (all_folds (map f es)) ((r e).folds u.0) (all-folds es u.1)

  all-seen : (es : List Expr) → FewerSights (sights_in_all (map f es)) (sights_in_all es)
  all-seen [] = same-sights (sights_in_all [])
  all-seen (e ∷ es) = sights-both (sights_in (f e)) (sights_in_all (map f es)) (sights_in e) (sights_in_all es) (r e).seen (all-seen es)

  all-away : (es : List Expr) → FewerReads (level_reads_in_all (map f es)) (level_reads_in_all es)
  all-away [] = λ x i. i
  all-away (e ∷ es) = reads-both (level_reads_in e) (level_reads_in_all es) (level_reads_in (f e)) (level_reads_in_all (map f es)) (r e).away (all-away es)

  all-pass : (test : Expr → Bool) → ((e : Expr) → test e ≡ true → test (f e) ≡ true) → (es : List Expr) → list_all test es ≡ true → list_all test (map f es) ≡ true
  all-pass test k [] h = h
  all-pass test k (e ∷ es) h = let u = both-true (test e) (list_all test es) h in and-true (test (f e)) (list_all test (map f es)) (k e u.0) (all-pass test k es u.1)

  -- a reduction that is done at once, and any
  together-each : (w : View) (at : Place) (op : Reduce) (ts : List Target) (es : List Expr) → together w at op ts (map f es) ≡ together w at op ts es
  together-each w at op ts es = ap (λ (x : AllEvaluated). assigned_all w ts (closed_by op w at (evaluated_all (map target_value ts) w) x)) (all-evaluated es w)

  at-once-each : (w : View) (at : Place) (op : Reduce) (ts : List Target) (es : List Expr) → at_once w at op ts (map f es) ≡ at_once w at op ts es
  at-once-each w at op [] es = together-each w at op [] es
  at-once-each w at op (t ∷ []) [] = refl
  at-once-each w at op (t ∷ []) (e ∷ []) = ap (λ (x : Evaluated). alone (assigned w t (combined_by op w at (evaluated (target_value t) w) x))) ((r e).same w)
  at-once-each w at op (t ∷ []) (e ∷ (d ∷ es)) = together-each w at op (t ∷ []) (e ∷ (d ∷ es))
  at-once-each w at op (t ∷ (u ∷ ts)) es = together-each w at op (t ∷ (u ∷ ts)) es

  reduced-each : (ends : Ends) (w : View) (it : Iteration) (total : TotalKey) (op : Reduce) (ts : List Target) (es : List Expr) → reduced ends w it total op ts (map f es) ≡ reduced ends w it total op ts es
  reduced-each AtOnce w it total op ts es = ap (λ (x : Result (List Slot × List Value) Fault). with_ok it x (wrote_all it)) (at-once-each w total.place op ts es)
  reduced-each WithInner w it total op ts es = ap (λ (x : AllEvaluated). with_ok it (assigned_all w ts x) (λ p. gave_inner it (contribution total op p))) (all-evaluated es w)
  reduced-each WithOutermost w it total op ts es = ap (λ (x : AllEvaluated). with_ok it (assigned_all w ts x) (λ p. gave_outermost it (contribution total op p))) (all-evaluated es w)

  -- a value for a target
  value-order : (fs : List K.Fault) (k : Key) (e : Expr) → in_order e k && lie_before (hoisted_in e) fs ≡ true → in_order (f e) k && lie_before (hoisted_in (f e)) fs ≡ true
  value-order fs k e h =
      let u = both-true (in_order e k) (lie_before (hoisted_in e) fs) h in
      and-true (in_order (f e) k) (lie_before (hoisted_in (f e)) fs) (order-same ds e (f e) (r e) k u.0)
      (lie-fewer (hoisted_in e) fs (hoisted_in (f e)) fs (r e).hoisted (λ x i. i) u.1)

  value-named : (t : Target) (e : Expr) → list_all (suits ds) (uses_of_target t ++ uses_in e) ≡ true → list_all (suits ds) (uses_of_target t ++ uses_in (f e)) ≡ true
  value-named t e h = let u = all-append (suits ds) (uses_of_target t) (uses_in e) h in append-true (suits ds) (uses_of_target t) (uses_in (f e)) u.0 ((r e).named u.1)

  value-faults : (fs : List K.Fault) (k : Key) (e : Expr) → Fewer (fs ++ faults_in (f e) k) (fs ++ faults_in e k)
  value-faults fs k e = fewer-both fs (faults_in e k) fs (faults_in (f e) k) (λ x i. i) (faults-fewer ds e (f e) (r e) k)

  value-seen : (t : Target) (e : Expr) → FewerSights (with_reads (sights_of_target t) (sights_in (f e))) (with_reads (sights_of_target t) (sights_in e))
  value-seen t e = sights-both (sights_of_target t) (sights_in (f e)) (sights_of_target t) (sights_in e) (same-sights (sights_of_target t)) (r e).seen

  combine-named : (ts : List Target) (es : List Expr) → list_all (suits ds) (uses_of_targets ts ++ uses_in_all es) ≡ true → list_all (suits ds) (uses_of_targets ts ++ uses_in_all (map f es)) ≡ true
  combine-named ts es h = let u = all-append (suits ds) (uses_of_targets ts) (uses_in_all es) h in append-true (suits ds) (uses_of_targets ts) (uses_in_all (map f es)) u.0 (all-named es u.1)

  combine-typed : (op : Reduce) (ts : List Target) (es : List Expr) → all_have_types ds ts es && fits_targets ds op ts ≡ true → all_have_types ds ts (map f es) && fits_targets ds op ts ≡ true
  combine-typed op ts es h = let u = both-true (all_have_types ds ts es) (fits_targets ds op ts) h in and-true (all_have_types ds ts (map f es)) (fits_targets ds op ts) (all-typed ts es u.0) u.1

  -- a conjunction whose second part is a test of an expression
  second : (test : Expr → Bool) (b : Bool) (e : Expr) → (test e ≡ true → test (f e) ≡ true) → b && test e ≡ true → b && test (f e) ≡ true
  second test b e k h = let u = both-true b (test e) h in and-true b (test (f e)) u.0 (k u.1)

  assign-form : (k : Key) (its : List ℕ) (t : Target) (e : Expr) → is_inner_code ds its (Assign k t e) ≡ true → is_inner_code ds its (Assign k t (f e)) ≡ true
  assign-form k its (T.Scalar x at) e h = second (is_flat its true) (nat_eq (depth_at ds x) 2) e ((r e).flat its true) h
  assign-form k its (T.Property x p at) e h = absurd (both_ways false refl h)

  defer-form : (k : Key) (n : ℕ) (levels : Bool) (t : Target) (e : Expr) → is_outer_code ds levels n (Defer k t e) ≡ true → is_outer_code ds levels n (Defer k t (f e)) ≡ true
  defer-form k n levels (T.Scalar x at) e h = absurd (both_ways false refl h)
  defer-form k n levels (T.Property x p at) e h = second (is_outer_expr levels n) (nat_eq x n) e ((r e).outer levels n) h

  return-typed : (res : Option VType) (e : Expr) → returns_type ds res (Some e) ≡ true → returns_type ds res (Some (f e)) ≡ true
  return-typed None e h = absurd (both_ways false refl h)
  return-typed (Some t) e h = typed-same ds e (f e) (r e) t h

  module _ (n : ℕ) (inner : Bool) where
    body-declare : (k : Key) (x : ℕ) (e : Option Expr) → ForBody ds n inner (Declare k x e) (Declare k x (option_map f e))
    body-declare k x None = body-same ds n inner (Declare k x None)
    body-declare k x (Some e) = record {
      same = λ g ls pushed x1 it. ap (λ (a : Answer). with_ok it a (λ v. wrote it (Scalar x, v))) (value-same ds e (f e) (r e) (view_in (loop_at ds n g ls pushed) (mode_at inner x1) it k));
      pushes_same = λ p. refl;
      named = λ h. let u = all-append (suits ds) (use_as Written x) (uses_in e) h in append-true (suits ds) (use_as Written x) (uses_in (f e)) u.0 ((r e).named u.1);
      typed = λ res h. typed-same ds e (f e) (r e) (type_at ds x) h;
      fewer = λ its. faults-fewer ds e (f e) (r e) k;
      order = λ its. order-same ds e (f e) (r e) k;
      seen = (r e).seen;
      away = λ o. (r e).away;
      reduced_same = refl;
      written_same = refl;
      deferred_same = refl;
      alike = λ h. h;
      inners = λ h. h;
      inner_form = λ i its h. second (is_flat its true) (nat_eq (depth_at ds x) 2) e ((r e).flat its true) h;
      outer_form = λ o levels h. second (is_outer_expr levels n) (nat_eq (depth_at ds x) 1) e ((r e).outer levels n) h;
    }

    body-assign : (k : Key) (t : Target) (e : Expr) → ForBody ds n inner (Assign k t e) (Assign k t (f e))
    body-assign k t e = record {
      same = λ g ls pushed x it. ap (λ (a : Evaluated). with_ok it (assigned (view_in (loop_at ds n g ls pushed) (mode_at inner x) it k) t a) (wrote it)) ((r e).same (view_in (loop_at ds n g ls pushed) (mode_at inner x) it k));
      pushes_same = λ p. refl;
      named = value-named t e;
      typed = λ res h. typed-same ds e (f e) (r e) (target_type ds t) h;
      fewer = λ its. value-faults (target_faults its t k) k e;
      order = λ its. value-order (target_faults its t k) k e;
      seen = value-seen t e;
      away = λ o. (r e).away;
      reduced_same = refl;
      written_same = refl;
      deferred_same = refl;
      alike = λ h. h;
      inners = λ h. h;
      inner_form = λ i its h. assign-form k its t e h;
      outer_form = λ o levels h. second (is_outer_expr levels n) (is_at_depth ds 1 n t) e ((r e).outer levels n) h;
    }

    body-defer : (k : Key) (t : Target) (e : Expr) → ForBody ds n inner (Defer k t e) (Defer k t (f e))
    body-defer k t e = record {
      same = λ g ls pushed x it. ap (λ (h : Iteration → Iteration). outer_only (mode_at inner x) h it)
          (fun_ext (λ i. ap (λ (a : Evaluated). with_ok i (assigned (view_in (loop_at ds n g ls pushed) (mode_at inner x) i k) t a) (deferred_to i)) ((r e).same (view_in (loop_at ds n g ls pushed) (mode_at inner x) i k))));
      pushes_same = λ p. refl;
      named = value-named t e;
      typed = λ res h. typed-same ds e (f e) (r e) (target_type ds t) h;
      fewer = λ its. value-faults (target_faults its t k) k e;
      order = λ its. value-order (target_faults its t k) k e;
      seen = value-seen t e;
      away = λ o. (r e).away;
      reduced_same = refl;
      written_same = refl;
      deferred_same = refl;
      alike = λ h. h;
      inners = λ h. h;
      inner_form = λ i its h. h;
      outer_form = λ o levels h. defer-form k n levels t e h;
    }

    body-combine : (k : Key) (total : TotalKey) (op : Reduce) (ts : List Target) (es : List Expr) → ForBody ds n inner (Combine k total op ts es) (Combine k total op ts (map f es))
    body-combine k total op ts es =
        let rest = record { key = k; place = total.place } ∷ total_fault total ∷ [] in
        record {
          same = λ g ls pushed x it. reduced-each (ends_of_all (mode_at inner x) (loop_at ds n g ls pushed) ts) (view_in (loop_at ds n g ls pushed) (mode_at inner x) it k) it total op ts es;
          pushes_same = λ p. refl;
          named = combine-named ts es;
          typed = λ res h. combine-typed op ts es h;
          fewer = λ its. fewer-both (targets_faults its ts k) (faults_in_all es k ++ rest) (targets_faults its ts k) (faults_in_all (map f es) k ++ rest) (λ x i. i) (fewer-both (faults_in_all es k) rest (faults_in_all (map f es) k) rest (all-faults es k) (λ x i. i));
          order = λ its h.
              let u = both-true (all_in_order es k) (lie_before (hoisted_in_all es) (targets_faults its ts k ++ rest)) h in
              and-true (all_in_order (map f es) k) (lie_before (hoisted_in_all (map f es)) (targets_faults its ts k ++ rest)) (all-ordered es k u.0)
              (lie-fewer (hoisted_in_all es) (targets_faults its ts k ++ rest) (hoisted_in_all (map f es)) (targets_faults its ts k ++ rest) (all-hoisted es) (λ x i. i) u.1);
          seen = sights-both (sights_of_targets ds n inner ts) (sights_in_all (map f es)) (sights_of_targets ds n inner ts) (sights_in_all es) (same-sights (sights_of_targets ds n inner ts)) (all-seen es);
          away = λ o. reads-both (sights_of_targets ds n false ts).properties (level_reads_in_all es) (sights_of_targets ds n false ts).properties (level_reads_in_all (map f es)) (λ x i. i) (all-away es);
          reduced_same = refl;
          written_same = refl;
          deferred_same = refl;
          alike = λ h. h;
          inners = λ h. h;
          inner_form = λ i its h. let u = both-true (list_all (is_within ds 2) ts) (list_all (is_flat its true) es) h in and-true (list_all (is_within ds 2) ts) (list_all (is_flat its true) (map f es)) u.0 (all-pass (is_flat its true) (λ e. (r e).flat its true) es u.1);
          outer_form = λ o levels h.
              let u = both-true (list_all (is_within ds 1) ts) (list_all (is_outer_expr levels n) es) h in
              and-true (list_all (is_within ds 1) ts) (list_all (is_outer_expr levels n) (map f es)) u.0 (all-pass (is_outer_expr levels n) (λ e. (r e).outer levels n) es u.1);
        }

  -- a body with each of its expressions changed
  pub body-each : (n : ℕ) (inner : Bool) (s : Stmt) → ForBody ds n inner s (each_expr_in f s)
  body-each n inner (Then a b) = body-then ds n inner a (each_expr_in f a) b (each_expr_in f b) (body-each n inner a) (body-each n inner b)
  body-each n inner (Declare k x e) = body-declare n inner k x e
  body-each n inner (Assign k t e) = body-assign n inner k t e
  body-each n inner (Defer k t e) = body-defer n inner k t e
  body-each n inner (Combine k total op ts es) = body-combine n inner k total op ts es
  body-each n inner (If k c a b) = body-if ds n inner k c (f c) a (each_expr_in f a) b (each_expr_in f b) (r c) (body-each n inner a) (body-each n inner b)
  body-each n inner (Foreach k at h c body) = body-foreach ds n inner k at h c (f c) body (each_expr_in f body) (r c) (body-each n true body)
  body-each n inner s = body-same ds n inner s

  module _ (res : Option VType) where
    phase-declare : (k : Key) (x : ℕ) (e : Option Expr) → ForPhase ds res (Declare k x e) (Declare k x (option_map f e))
    phase-declare k x None = phase-same ds res (Declare k x None)
    phase-declare k x (Some e) = record {
      same = λ g bound u. ap (λ (a : Answer). with_value a (λ v. with_store u (write u.store (Scalar x) v))) (value-same ds e (f e) (r e) (view_of (record { graph = g; declarations = ds; bound = bound }) u k));
      named = λ h. let u = all-append (suits ds) (use_as Written x) (uses_in e) h in append-true (suits ds) (use_as Written x) (uses_in (f e)) u.0 ((r e).named u.1);
      typed = typed-same ds e (f e) (r e) (type_at ds x);
      order = (r e).folds;
      share = λ h. h;
      form = second is_phase_expr (nat_eq (depth_at ds x) 0) e (r e).phase;
    }

    phase-assign : (k : Key) (t : Target) (e : Expr) → ForPhase ds res (Assign k t e) (Assign k t (f e))
    phase-assign k t e = record {
      same = λ g bound u.
          let w : View = view_of (record { graph = g; declarations = ds; bound = bound }) u k in
          ap (λ (a : Evaluated). writes u (assigned w t a)) ((r e).same w);
      named = value-named t e;
      typed = typed-same ds e (f e) (r e) (target_type ds t);
      order = (r e).folds;
      share = λ h. h;
      form = second is_phase_expr (is_within ds 0 t) e (r e).phase;
    }

    phase-combine : (k : Key) (total : TotalKey) (op : Reduce) (ts : List Target) (es : List Expr) → ForPhase ds res (Combine k total op ts es) (Combine k total op ts (map f es))
    phase-combine k total op ts es = record {
      same = λ g bound u. ap (λ (x : Result (List Slot × List Value) Fault). writes_all u x) (at-once-each (view_of (record { graph = g; declarations = ds; bound = bound }) u k) total.place op ts es);
      named = combine-named ts es;
      typed = combine-typed op ts es;
      order = all-folds es;
      share = λ h. h;
      form = λ h. let u = both-true (list_all (is_within ds 0) ts) (list_all is_phase_expr es) h in and-true (list_all (is_within ds 0) ts) (list_all is_phase_expr (map f es)) u.0 (all-pass is_phase_expr (λ e. (r e).phase) es u.1);
    }

    phase-group : (k : Key) (at : Place) (g p : ℕ) (e : Expr) → ForPhase ds res (Group k at g p e) (Group k at g p (f e))
    phase-group k at g p e =
        let t = T.Property g p at in
        record {
          same = λ graph bound u. loops-same ds g k always always (Assign k t e) (Assign k t (f e)) (expr-same ds always) (body-assign g false k t e) graph bound no_levels (nodes graph) u;
          named = λ h.
              let u = all-append (suits ds) (use_as Iterates g) (use_as NodeValue p ++ uses_in e) h in
              let v = all-append (suits ds) (use_as NodeValue p) (uses_in e) u.1 in
              append-true (suits ds) (use_as Iterates g) (use_as NodeValue p ++ uses_in (f e)) u.0 (append-true (suits ds) (use_as NodeValue p) (uses_in (f e)) v.0 ((r e).named v.1));
          typed = typed-same ds e (f e) (r e) (type_at ds p);
          order = λ h.
              let u = both-true (are_numbered (fault_of k at ∷ faults_in e k)) (in_order e k && lie_before (hoisted_in e) (fault_of k at ∷ [])) h in
              and-true (are_numbered (fault_of k at ∷ faults_in (f e) k)) (in_order (f e) k && lie_before (hoisted_in (f e)) (fault_of k at ∷ []))
              (numbered-fewer (fault_of k at ∷ faults_in e k) (fault_of k at ∷ faults_in (f e) k) (fewer-both (fault_of k at ∷ []) (faults_in e k) (fault_of k at ∷ []) (faults_in (f e) k) (λ x i. i) (faults-fewer ds e (f e) (r e) k)) u.0)
              (value-order (fault_of k at ∷ []) k e u.1);
          share = loop-shared ds g always always (Assign k t e) (Assign k t (f e)) (expr-same ds always) (body-assign g false k t e);
          form = (r e).outer false g;
        }

    phase-return : (k : Key) (at : Place) (e : Option Expr) → ForPhase ds res (Return k at e) (Return k at (option_map f e))
    phase-return k at None = phase-same ds res (Return k at None)
    phase-return k at (Some e) = record {
      same = λ g bound u. ap (λ (a : Answer). with_value a (λ v. Returns (Some v) u)) (value-same ds e (f e) (r e) (view_of (record { graph = g; declarations = ds; bound = bound }) u k));
      named = (r e).named;
      typed = return-typed res e;
      order = (r e).folds;
      share = λ h. h;
      form = (r e).phase;
    }

    -- a sequential phase with each of its expressions changed
    pub phase-each : (s : Stmt) → ForPhase ds res s (each_expr f s)
    phase-each (Then a b) = phase-then ds res a (each_expr f a) b (each_expr f b) (phase-each a) (phase-each b)
    phase-each (Declare k x e) = phase-declare k x e
    phase-each (Assign k t e) = phase-assign k t e
    phase-each (Combine k total op ts es) = phase-combine k total op ts es
    phase-each (Group k at g p e) = phase-group k at g p e
    phase-each (Foreach k at h c body) = phase-foreach ds res k at h c (f c) body (each_expr_in f body) (r c) (body-each h.iterator false body)
    phase-each (For k at h c s) = phase-for ds res k at h c (f c) s (each_expr f s) (r c) (phase-each s)
    phase-each (If k c a b) = phase-if ds res k c (f c) a (each_expr f a) b (each_expr f b) (r c) (phase-each a) (phase-each b)
    phase-each (While k at c s) = phase-while ds res k at c (f c) s (each_expr f s) (r c) (phase-each s)
    phase-each (Do k at s c) = phase-do ds res k at c (f c) s (each_expr f s) (r c) (phase-each s)
    phase-each (InBfs k at h c body) = phase-search ds res k at h c (f c) body (each_expr_in f body) (r c) (body-each h.iterator false body)
    phase-each (InBfsBoth k at h c body back_key d back) =
        phase-search-both ds res k at h c (f c) body (each_expr_in f body) back_key d (f d) back (each_expr_in f back) (r c) (body-each h.iterator false body) (r d) (body-each h.iterator false back)
    phase-each (Return k at e) = phase-return k at e
    phase-each s = phase-same ds res s
