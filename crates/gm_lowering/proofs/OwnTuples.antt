-- A tuple that an own body keeps in its locals and its node's properties, as the program does it.
use Rattle.std.proofs.Common.{◌≡◌, ℕ, zero, suc, Bool, true, false, Some, None, Result, Ok, Err, List, [], ◌∷◌, map, refl, ap, ◌∙◌, ◌≤◌, length, arith}
use Rattle.std.specs.Prelude.{◌&&◌, if◌then◌else◌, not, nat_eq, nat_lt}
use Rattle.std.specs.List.{list_all}
use Rattle.std.proofs.lemmas.Bool.{both_ways, eqb-true}
use Rattle.gm_base.specs.declared.places.Place.{Place}
use Rattle.gm_value.specs.declared.values.Value.{Value}
use Rattle.gm_value.specs.declared.reductions.Reduce.{Reduce}
use Rattle.gm_value.specs.Tuples.{close_slots}
use Rattle.gm_ast.specs.declared.tree.Key.{Key}
use Rattle.gm_ast.specs.declared.tree.Sort.TheVariants as Sorts
use Rattle.gm_ast.specs.declared.tree.Target.{Target}
use Rattle.gm_ast.specs.declared.tree.Target.TheVariants as T
use Rattle.gm_ast.specs.declared.tree.TotalKey.{TotalKey}
use Rattle.gm_ast.specs.Names.{is}
use Rattle.gm_ast.specs.Program as S
use Rattle.gm_ast.specs.Program.{Expr}
use Rattle.gm_forms.proofs.Named.{both-true}
use Rattle.gm_semantics.specs.declared.faults.Fault.{Fault}
use Rattle.gm_semantics.specs.declared.slots.Slot.{Slot}
use Rattle.gm_semantics.specs.declared.slots.Slot.TheVariants.{Scalar, Node}
use Rattle.gm_semantics.specs.Expressions.{View, AllEvaluated, evaluated, evaluated_all, plain, early, at_node, node_held, and_all}
use Rattle.gm_semantics.specs.Faults.{then_with, unless_fault}
use Rattle.gm_semantics.specs.Iterations.{Loop, Outermost, Iteration, AtOnce, WithOutermost, view_in, with_ok, wrote_all, reduced, scalar_ends, own_ends, later, ends_of_all, slots_of, target_value, tuple_held, closed_by, together, does, AtEdge}
use Rattle.gm_semantics.specs.Levels.{node_in}
use Rattle.gm_semantics.specs.Statements.{variable_at}
use Rattle.gm_semantics.specs.Stores.{reads, Store}
use Rattle.gm_lowering.specs.Layouts.{Layout, is_register}
use Rattle.gm_lowering.specs.TupleLines.{own_slots}
use Rattle.gm_lowering.specs.Sites.{is_local}
use Rattle.gm_lowering.proofs.Givens.{assigned-is}
use Rattle.gm_lowering.specs.OwnLoops.{is_own_target}
use Rattle.gm_lowering.specs.MessageLoops.{is_inner_local, is_inner_target}

abbrev pub are_own : Layout → ℕ → List Target → Bool
are_own c n ts = list_all (is_own_target c n) ts

-- two targets hold two values
pub two-held : (k : ℕ) (s : Store) (a b : Target) (us : List Target) → 2 ≤ length (reads s (own_slots k (a ∷ (b ∷ us))))
two-held k s (T.Scalar x at) (T.Scalar y at') us = omega arith
two-held k s (T.Scalar x at) (T.Property y p at') us = omega arith
two-held k s (T.Property x p at) (T.Scalar y at') us = omega arith
two-held k s (T.Property x p at) (T.Property y p' at') us = omega arith

module _ (c : Layout) (loop : Loop) (k : ℕ) (depth_is : (x : ℕ) → loop.depth x ≡ (variable_at c.declarations x).depth) where
  abbrev n : ℕ
  n = loop.outer

  local-now : (x : ℕ) → is_local c x ≡ true → scalar_ends Outermost (loop.depth x) ≡ AtOnce
  local-now x o =
      ap (scalar_ends Outermost) (depth_is x)
      ∙ by (variable_at c.declarations x).depth (both-true (is Sorts.Scalar (variable_at c.declarations x)) (not (nat_eq (variable_at c.declarations x).depth 0)) (both-true _ (is_register (variable_at c.declarations x)) o).1).1 where
        by : (d : ℕ) → not (nat_eq d 0) ≡ true → scalar_ends Outermost d ≡ AtOnce
        by zero o = absurd (both_ways false refl o)
        by (suc d) o = refl

  local-inside : (edge x : ℕ) → is_inner_local c x ≡ true → scalar_ends (AtEdge edge) (loop.depth x) ≡ AtOnce
  local-inside edge x o = ap (scalar_ends (AtEdge edge)) (depth_is x) ∙ by (variable_at c.declarations x).depth (both-true (is_local c x) (nat_lt 1 (variable_at c.declarations x).depth) o).1 where
    by : (d : ℕ) → nat_lt 1 d ≡ true → scalar_ends (AtEdge edge) d ≡ AtOnce
    by zero h = absurd (both_ways false refl h)
    by (suc zero) h = absurd (both_ways false refl h)
    by (suc (suc d)) h = refl

  all-now : (ts : List Target) → are_own c n ts ≡ true → ends_of_all Outermost loop ts ≡ AtOnce
  all-now [] h = refl
  all-now (T.Scalar x at ∷ ts) h =
      let q = both-true (is_local c x) (are_own c n ts) h in
      ap (λ e. later e (ends_of_all Outermost loop ts)) (local-now x q.0) ∙ ap (later AtOnce) (all-now ts q.1)
  all-now (T.Property x p at ∷ ts) h =
      let q = both-true (nat_eq x n && c.is_kept p) (are_own c n ts) h in
      ap (λ b. later (if b then own_ends Outermost (loop.pushed p) else WithOutermost) (ends_of_all Outermost loop ts)) (both-true (nat_eq x n) (c.is_kept p) q.0).0
      ∙ ap (later AtOnce) (all-now ts q.1)

  module _ (w : View) (parallel : w.parallel ≡ true) (there : node_in w.graph (w.store.scalar n) ≡ Some k) where
    slots-are : (ts : List Target) → are_own c n ts ≡ true → slots_of w ts ≡ Ok (own_slots k ts)
    slots-are [] h = refl
    slots-are (T.Scalar x at ∷ ts) h =
        let q = both-true (is_local c x) (are_own c n ts) h in ap (λ r. then_with r (λ ss. Ok (Scalar x ∷ ss))) (slots-are ts q.1)
    slots-are (T.Property x p at ∷ ts) h =
        let q = both-true (nat_eq x n && c.is_kept p) (are_own c n ts) h in
        ap (λ z. then_with (then_with (node_held w at (node_in w.graph (w.store.scalar z))) (λ m. Ok (Node p m))) (λ s. then_with (slots_of w ts) (λ ss. Ok (s ∷ ss)))) (eqb-true x n (both-true (nat_eq x n) (c.is_kept p) q.0).0)
        ∙ ap (λ o. then_with (then_with (node_held w at o) (λ m. Ok (Node p m))) (λ s. then_with (slots_of w ts) (λ ss. Ok (s ∷ ss)))) there
        ∙ ap (λ a. then_with a (λ ss. Ok (Node p k ∷ ss))) (slots-are ts q.1)

    one-held : (x p : ℕ) (at : Place) → nat_eq x n ≡ true → evaluated (target_value (T.Property x p at)) w ≡ plain (Ok (w.store.node p k))
    one-held x p at e =
        ap (λ b. if b then plain (at_node w x at (w.store.node p)) else early (at_node w x at (w.store.node p))) parallel
        ∙ ap (λ z. plain (then_with (node_held w at (node_in w.graph (w.store.scalar z))) (λ m. Ok (w.store.node p m)))) (eqb-true x n e)
        ∙ ap (λ o. plain (then_with (node_held w at o) (λ m. Ok (w.store.node p m)))) there

    all-held : (ts : List Target) → are_own c n ts ≡ true → evaluated_all (map target_value ts) w ≡ record { hoisted = None; rest = Ok (reads w.store (own_slots k ts)) }
    all-held [] o = refl
    all-held (T.Scalar x at ∷ ts) o =
        let q = both-true (is_local c x) (are_own c n ts) o in ap (and_all (plain (Ok (w.store.scalar x)))) (all-held ts q.1)
    all-held (T.Property x p at ∷ ts) o =
        let q = both-true (nat_eq x n && c.is_kept p) (are_own c n ts) o in
        ap (λ a. and_all a (evaluated_all (map target_value ts) w)) (one-held x p at (both-true (nat_eq x n) (c.is_kept p) q.0).0)
        ∙ ap (and_all (plain (Ok (w.store.node p k)))) (all-held ts q.1)

    -- what is written at once
    abbrev closed_at : Place → Reduce → List Target → Result (List Value) Fault → Result (List Slot × List Value) Fault
    closed_at at r ts answer = then_with answer (λ ys. then_with (tuple_held w at (close_slots r (reads w.store (own_slots k ts)) (ys ∷ []))) (λ vs. Ok (own_slots k ts, vs)))

    pub together-is : (at : Place) (r : Reduce) (ts : List Target) (es : List Expr) → are_own c n ts ≡ true → (evaluated_all es w).hoisted ≡ None
        → together w at r ts es ≡ closed_at at r ts (evaluated_all es w).rest
    together-is at r ts es o h =
        let b = evaluated_all es w in
        ap (λ a. assigned_by (closed_by r w at a b)) (all-held ts o)
        ∙ assigned-is w ts (closed_by r w at (record { hoisted = None; rest = Ok (reads w.store (own_slots k ts)) }) b) (own_slots k ts) h (slots-are ts o)
        ∙ by b.rest where
          assigned_by : AllEvaluated → Result (List Slot × List Value) Fault
          assigned_by a = unless_fault a.hoisted (then_with (slots_of w ts) (λ ss. then_with a.rest (λ xs. Ok (ss, xs))))

          by : (a : Result (List Value) Fault) → then_with (then_with a (λ vs. tuple_held w at (close_slots r (reads w.store (own_slots k ts)) (vs ∷ [])))) (λ xs. Ok (own_slots k ts, xs)) ≡ closed_at at r ts a
          by (Ok vs) = refl
          by (Err f) = refl

  -- a tuple that is kept at once
  pub tuple-now : (it : Iteration) (key : Key) (total : TotalKey) (r : Reduce) (t u : Target) (ts : List Target) (es : List Expr)
      → are_own c n (t ∷ (u ∷ ts)) ≡ true → (evaluated_all es (view_in loop Outermost it key)).hoisted ≡ None → (there : node_in loop.graph (it.store.scalar n) ≡ Some k)
      → does (S.Combine key total r (t ∷ (u ∷ ts)) es) Outermost loop it
      ≡ with_ok it (closed_at (view_in loop Outermost it key) refl there total.place r (t ∷ (u ∷ ts)) (evaluated_all es (view_in loop Outermost it key)).rest) (wrote_all it)
  tuple-now it key total r t u ts es o h there =
      ap (λ e. reduced e (view_in loop Outermost it key) it total r (t ∷ (u ∷ ts)) es) (all-now (t ∷ (u ∷ ts)) o)
      ∙ ap (λ a. with_ok it a (wrote_all it)) (together-is (view_in loop Outermost it key) refl there total.place r (t ∷ (u ∷ ts)) es o h)

  -- inner locals are taken at once in an inner body
  pub all-inside : (edge : ℕ) (ts : List Target) → list_all (is_inner_target c) ts ≡ true → ends_of_all (AtEdge edge) loop ts ≡ AtOnce
  all-inside edge [] h = refl
  all-inside edge (T.Property x p at ∷ ts) h = absurd (both_ways false refl h)
  all-inside edge (T.Scalar x at ∷ ts) h =
      let q = both-true (is_inner_local c x) (list_all (is_inner_target c) ts) h in
      ap (λ e. later e (ends_of_all (AtEdge edge) loop ts)) (local-inside edge x q.0) ∙ ap (later AtOnce) (all-inside edge ts q.1)

  pub inner-own : (ts : List Target) → list_all (is_inner_target c) ts ≡ true → are_own c n ts ≡ true
  inner-own [] h = refl
  inner-own (T.Property x p at ∷ ts) h = absurd (both_ways false refl h)
  inner-own (T.Scalar x at ∷ ts) h =
      let q = both-true (is_inner_local c x) (list_all (is_inner_target c) ts) h in
      ap (λ b. b && are_own c n ts) (both-true (is_local c x) (nat_lt 1 (variable_at c.declarations x).depth) q.0).0 ∙ inner-own ts q.1

  -- a tuple of inner locals that is kept at once
  pub inner-tuple-now : (edge : ℕ) (it : Iteration) (key : Key) (total : TotalKey) (r : Reduce) (t u : Target) (ts : List Target) (es : List Expr)
      → list_all (is_inner_target c) (t ∷ (u ∷ ts)) ≡ true → (evaluated_all es (view_in loop (AtEdge edge) it key)).hoisted ≡ None → (there : node_in loop.graph (it.store.scalar n) ≡ Some k)
      → does (S.Combine key total r (t ∷ (u ∷ ts)) es) (AtEdge edge) loop it
      ≡ with_ok it (closed_at (view_in loop (AtEdge edge) it key) refl there total.place r (t ∷ (u ∷ ts)) (evaluated_all es (view_in loop (AtEdge edge) it key)).rest) (wrote_all it)
  inner-tuple-now edge it key total r t u ts es o h there =
      ap (λ e. reduced e (view_in loop (AtEdge edge) it key) it total r (t ∷ (u ∷ ts)) es) (all-inside edge (t ∷ (u ∷ ts)) o)
      ∙ ap (λ a. with_ok it a (wrote_all it)) (together-is (view_in loop (AtEdge edge) it key) refl there total.place r (t ∷ (u ∷ ts)) es (inner-own (t ∷ (u ∷ ts)) o) h)
