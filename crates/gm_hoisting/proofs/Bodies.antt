-- An outer body with its reductions as loops onto locals goes alike.
use Rattle.std.proofs.Common.{◌≡◌, ◌≤◌, ◌+◌, ℕ, Bool, true, false, List, [], ◌∷◌, refl, sym, ap, subst, ◌∙◌, arith, Option, Some, None}
use Rattle.std.specs.Prelude.{◌&&◌, nat_eq}
use Rattle.std.specs.List.{list_all}
use Rattle.std.proofs.lemmas.Bool.{both_ways}
use Rattle.std.proofs.Math.Path.{fun_ext}
use Rattle.gm_value.specs.Operations.{is_true}
use Rattle.gm_ast.specs.declared.tree.Declaration.{Declaration}
use Rattle.gm_ast.specs.declared.tree.Key.{Key}
use Rattle.gm_ast.specs.declared.tree.Target.TheVariants as T
use Rattle.gm_ast.specs.Program.{Expr, Stmt, Then, Declare, Assign, Defer, Combine, If, sequence}
use Rattle.gm_semantics.specs.declared.faults.Fault.{Fault}
use Rattle.gm_semantics.specs.declared.slots.Slot.TheVariants.{Scalar}
use Rattle.gm_semantics.specs.Expressions.{Answer, Evaluated, settled, evaluated}
use Rattle.gm_semantics.specs.Frames.{AllReadBelow, NamesBelow, Alike}
use Rattle.gm_semantics.specs.Iterations.{Loop, Iteration, Outermost, go_on, with_ok, one_way, view_in, assigned, ends_of_all, wrote, deferred_to, does}
use Rattle.gm_semantics.proofs.ExpressionFrames.{evaluated-frame}
use Rattle.gm_semantics.proofs.BodyFrames.{does-alike}
use Rattle.gm_forms.specs.Forms.{depth_at, is_within}
use Rattle.gm_forms.specs.Ready.{is_outer_expr, is_at_depth, is_outer_code}
use Rattle.gm_forms.proofs.Named.{both-true}
use Rattle.gm_hoisting.specs.Hoisting.{count_folds, count_body, folds_set, all_set, told_from, all_told, behind, body_out}
use Rattle.gm_hoisting.proofs.OneFold.{skip-same, going, stopped, Strict, told}
use Rattle.gm_hoisting.proofs.FoldsAlike.{sequence-both, AreLocals, locals-left, locals-right, IsLate, AreLate, Ready, folds-alike, all_evaluated, rests, ReadyAll, all-alike}
use Rattle.gm_hoisting.proofs.Parts.{each_of, reduced_so, reduced-same, reduced-strict, with_value-alike, wrote-alike, deferred-alike, assigned-moved, reduced-alike, one_way-alike}

-- a statement behind others
pub behind-does : (xs : List Stmt) (t : Stmt) (loop : Loop) (i : Iteration) → i.fault ≡ None → does (behind xs t) Outermost loop i ≡ go_on (does (sequence xs) Outermost loop i) (does t Outermost loop)
behind-does [] t loop i none = sym (going i (does t Outermost loop) none)
behind-does (x ∷ xs) t loop i none =
    sequence-both (x ∷ xs) (t ∷ []) loop i none ∙ ap (go_on (does (sequence (x ∷ xs)) Outermost loop i)) (fun_ext (λ u. skip-same (does t Outermost loop u)))

module _ (k : ℕ) (ds : List Declaration) (loop : Loop) (levels : Bool) (outer : ℕ) where
  -- the totals of a body's reductions fault behind their elements, wherever the body comes
  abbrev pub BodyLate : Stmt → Type 0
  BodyLate (Then s t) = BodyLate s × BodyLate t
  BodyLate (Declare key x (Some e)) = (a : Iteration) → IsLate loop a e
  BodyLate (Assign key g e) = (a : Iteration) → IsLate loop a e
  BodyLate (Defer key g e) = (a : Iteration) → IsLate loop a e
  BodyLate (Combine key total r ts es) = (a : Iteration) → AreLate loop a es
  BodyLate (If key c s t) = ((a : Iteration) → IsLate loop a c) × BodyLate s × BodyLate t
  BodyLate s = Unit {0}

  abbrev runs : Stmt → Iteration → Iteration
  runs s = does s Outermost loop

  -- a statement that does with the parts of an expression what a function says
  stmt-alike : (n : ℕ) (key : Key) (e : Expr) (a b : Iteration) → Alike k a b → a.fault ≡ None → k ≤ n → Ready k loop levels outer key n e a →
      (s t : Stmt) (f : Evaluated → Iteration) (g : Iteration → Evaluated → Iteration) → runs s a ≡ f (evaluated e (view_in loop Outermost a key)) → Strict a f →
      ((u : Iteration) → runs t u ≡ g u (evaluated (told_from n e) (view_in loop Outermost u key))) →
      ((u : Iteration) (r : Answer) → Alike k a u → u.fault ≡ None → Alike k (f (told r)) (g u (told r))) →
      Alike k (runs s a) (runs (behind (folds_set n key e) t) b)
  stmt-alike n key e a b h none l ready s t f g before strict after alike =
      let x = (evaluated e (view_in loop Outermost a key)).rest in
      subst (λ i. Alike k i (runs (behind (folds_set n key e) t) b)) (sym before)
      (subst (Alike k (f (evaluated e (view_in loop Outermost a key)))) (sym (behind-does (folds_set n key e) t loop b (h.fault ∙ none)))
      (folds-alike k loop levels outer key e n a b h (h.fault ∙ none) l ready f strict (runs t)
      (λ u i nu j is. subst (Alike k (f (told x))) (sym (after u ∙ ap (g u) (is ∙ ap (λ (ev : Evaluated). told ev.rest) (evaluated-frame k e (view_in loop Outermost a key) u.store ready.below i.store))))
      (alike u x i nu))))

  pub body-alike : (s : Stmt) (n : ℕ) → k ≤ n → NamesBelow k s → is_outer_code ds levels outer s ≡ true → AreLocals loop n (count_body s) → BodyLate s →
      (a b : Iteration) → a.fault ≡ None → Alike k a b → Alike k (runs s a) (runs (body_out n s) b)
  body-alike (Then s t) n l names form locals late a b none h =
      let forms = both-true (is_outer_code ds levels outer s) (is_outer_code ds levels outer t) form in
      let more : k ≤ n + count_body s = omega (arith, l) in
      let first = body-alike s n l names.0 forms.0 (locals-left loop n (count_body s) (count_body t) locals) late.0 a b none h in
      by (runs s a).fault refl first
      (λ ok. body-alike t (n + count_body s) more names.1 forms.1 (locals-right loop n (count_body s) (count_body t) locals) late.1 (runs s a) (runs (body_out n s) b) ok first)
    where
      by : (o : Option Fault) → (runs s a).fault ≡ o → Alike k (runs s a) (runs (body_out n s) b) →
          ((runs s a).fault ≡ None → Alike k (runs t (runs s a)) (runs (body_out (n + count_body s) t) (runs (body_out n s) b))) →
          Alike k (go_on (runs s a) (runs t)) (go_on (runs (body_out n s) b) (runs (body_out (n + count_body s) t)))
      by None e i next =
          subst (λ j. Alike k j (go_on (runs (body_out n s) b) (runs (body_out (n + count_body s) t)))) (sym (going (runs s a) (runs t) e))
          (subst (Alike k (runs t (runs s a))) (sym (going (runs (body_out n s) b) (runs (body_out (n + count_body s) t)) (i.fault ∙ e))) (next e))
      by (Some f) e i next =
          subst (λ j. Alike k j (go_on (runs (body_out n s) b) (runs (body_out (n + count_body s) t)))) (sym (stopped (runs s a) f (runs t) e))
          (subst (Alike k (runs s a)) (sym (stopped (runs (body_out n s) b) f (runs (body_out (n + count_body s) t)) (i.fault ∙ e))) i)
  body-alike (Declare key x (Some e)) n l names form locals late a b none h =
      let forms = both-true (nat_eq (depth_at ds x) 1) (is_outer_expr levels outer e) form in
      stmt-alike n key e a b h none l (record { below = names.1; form = forms.1; locals = locals; late = late a }) (Declare key x (Some e)) (Declare key x (Some (told_from n e)))
      (λ ev. with_ok a (settled ev) (λ v. wrote a (Scalar x, v))) (λ u ev. with_ok u (settled ev) (λ v. wrote u (Scalar x, v))) refl (λ y r. refl) (λ u. refl)
      (λ u r i nu. with_value-alike k a u r r (λ v. wrote a (Scalar x, v)) (λ v. wrote u (Scalar x, v)) i refl (λ v. wrote-alike k a u (Scalar x, v) i))
  body-alike (Assign key g e) n l names form locals late a b none h =
      let forms = both-true (is_at_depth ds 1 outer g) (is_outer_expr levels outer e) form in
      stmt-alike n key e a b h none l (record { below = names.1; form = forms.1; locals = locals; late = late a }) (Assign key g e) (Assign key g (told_from n e))
      (λ ev. with_ok a (assigned (view_in loop Outermost a key) g ev) (wrote a)) (λ u ev. with_ok u (assigned (view_in loop Outermost u key) g ev) (wrote u)) refl (λ y r. refl) (λ u. refl)
      (λ u r i nu. with_value-alike k a u _ _ (wrote a) (wrote u) i (assigned-moved k (view_in loop Outermost a key) u.store g (told r) names.0 i.store) (λ p. wrote-alike k a u p i))
  body-alike (Defer key (T.Scalar x at) e) n l names form locals late a b none h = absurd (both_ways false refl form)
  body-alike (Defer key (T.Property x p at) e) n l names form locals late a b none h =
      let g = T.Property x p at in
      let forms = both-true (nat_eq x outer) (is_outer_expr levels outer e) form in
      stmt-alike n key e a b h none l (record { below = names.1; form = forms.1; locals = locals; late = late a }) (Defer key g e) (Defer key g (told_from n e))
      (λ ev. with_ok a (assigned (view_in loop Outermost a key) g ev) (deferred_to a)) (λ u ev. with_ok u (assigned (view_in loop Outermost u key) g ev) (deferred_to u)) refl (λ y r. refl) (λ u. refl)
      (λ u r i nu. with_value-alike k a u _ _ (deferred_to a) (deferred_to u) i (assigned-moved k (view_in loop Outermost a key) u.store g (told r) names.0 i.store) (λ p. deferred-alike k a u p i))
  body-alike (Combine key total r ts es) n l names form locals late a b none h =
      let forms = both-true (list_all (is_within ds 1) ts) (list_all (is_outer_expr levels outer) es) form in
      let ends = ends_of_all Outermost loop ts in
      let ready : ReadyAll k loop levels outer key n es a = record { below = names.1; form = forms.1; locals = locals; late = late a } in
      let evs = all_evaluated k loop levels outer key es a in
      let last = Combine key total r ts (all_told n es) in
      subst (λ i. Alike k i (runs (behind (all_set n key es) last) b)) (sym (reduced-same ends (view_in loop Outermost a key) a total r ts es))
      (subst (Alike k (reduced_so ends (view_in loop Outermost a key) a total r ts evs)) (sym (behind-does (all_set n key es) last loop b (h.fault ∙ none)))
      (all-alike k loop levels outer key es n a b h (h.fault ∙ none) l ready (reduced_so ends (view_in loop Outermost a key) a total r ts) (λ evs y is. reduced-strict loop Outermost a key ends total r ts evs y is) (runs last)
      (λ u i nu j is.
      subst (Alike k (reduced_so ends (view_in loop Outermost a key) a total r ts (rests evs)))
      (sym (reduced-same ends (view_in loop Outermost u key) u total r ts (all_told n es) ∙ ap (reduced_so ends (view_in loop Outermost u key) u total r ts) (is ∙ ap rests (each-frame es a u names.1 i))))
      (reduced-alike k ends loop Outermost key total r ts (rests evs) a u names.0 i))))
    where
      each-frame : (es : List Expr) (a u : Iteration) → AllReadBelow k es → Alike k a u → each_of (view_in loop Outermost u key) es ≡ each_of (view_in loop Outermost a key) es
      each-frame [] a u below i = refl
      each-frame (e ∷ es) a u below i =
          ap (λ ev. ev ∷ each_of (view_in loop Outermost u key) es) (evaluated-frame k e (view_in loop Outermost a key) u.store below.0 i.store)
          ∙ ap (λ evs. evaluated e (view_in loop Outermost a key) ∷ evs) (each-frame es a u below.1 i)
  body-alike (If key c s t) n l names form locals late a b none h =
      let forms = both-true (is_outer_expr levels outer c) (is_outer_code ds levels outer s && is_outer_code ds levels outer t) form in
      let branches = both-true (is_outer_code ds levels outer s) (is_outer_code ds levels outer t) forms.1 in
      let n1 = n + count_folds c in
      let n2 = n1 + count_body s in
      let rest = locals-right loop n (count_folds c) (count_body s + count_body t) locals in
      let l1 : k ≤ n1 = omega (arith, l) in
      let l2 : k ≤ n2 = omega (arith, l) in
      stmt-alike n key c a b h none l (record { below = names.0; form = forms.0; locals = locals-left loop n (count_folds c) (count_body s + count_body t) locals; late = late.0 a })
      (If key c s t) (If key (told_from n c) (body_out n1 s) (body_out n2 t))
      (λ ev. with_ok a (settled ev) (λ v. one_way (is_true v) (runs s) (runs t) a)) (λ u ev. with_ok u (settled ev) (λ v. one_way (is_true v) (runs (body_out n1 s)) (runs (body_out n2 t)) u)) refl (λ y r. refl) (λ u. refl)
      (λ u r i nu. with_value-alike k a u r r _ _ i refl
      (λ v. one_way-alike k (is_true v) (runs s) (runs t) (runs (body_out n1 s)) (runs (body_out n2 t)) a u
      (body-alike s n1 l1 names.1 branches.0 (locals-left loop n1 (count_body s) (count_body t) rest) late.1 a u none i)
      (body-alike t n2 l2 names.2 branches.1 (locals-right loop n1 (count_body s) (count_body t) rest) late.2 a u none i)))
  body-alike s n l names form locals late a b none h = does-alike k s Outermost loop a b names h
