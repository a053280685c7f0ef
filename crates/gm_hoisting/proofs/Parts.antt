-- Statements of a body as functions of what their expressions mean.
use Rattle.std.proofs.Common.{◌≡◌, ℕ, Bool, true, false, List, [], ◌∷◌, ◌++◌, map, refl, sym, ap, subst, ◌∙◌, Option, Some, None, Result, Ok, Err}
use Rattle.std.proofs.Math.Path.{fun_ext}
use Rattle.std.specs.Prelude.{IfOk}
use Rattle.gm_base.specs.declared.places.Place.{Place}
use Rattle.gm_value.specs.declared.values.Value.{Value}
use Rattle.gm_value.specs.declared.reductions.Reduce.{Reduce}
use Rattle.gm_value.specs.declared.reductions.Reduce.TheVariants.{Sum, Product, Min, Max, And, Or}
use Rattle.gm_value.specs.Reductions.{close}
use Rattle.gm_value.specs.Tuples.{close_slots}
use Rattle.gm_ast.specs.declared.tree.Key.{Key}
use Rattle.gm_ast.specs.declared.tree.TotalKey.{TotalKey}
use Rattle.gm_ast.specs.declared.tree.Target.{Target}
use Rattle.gm_ast.specs.declared.tree.Target.TheVariants as T
use Rattle.gm_ast.specs.Program.{Expr}
use Rattle.gm_semantics.specs.declared.faults.Fault.{Fault}
use Rattle.gm_semantics.specs.declared.slots.Slot.{Slot}
use Rattle.gm_semantics.specs.declared.slots.Slot.TheVariants.{Node}
use Rattle.gm_semantics.specs.Stores.{Store}
use Rattle.gm_semantics.specs.Faults.{first, then_with, unless_fault}
use Rattle.gm_semantics.specs.Contributions.{Contribution}
use Rattle.gm_semantics.specs.Expressions.{View, Evaluated, AllEvaluated, and_all, two_of, evaluated, evaluated_all}
use Rattle.gm_semantics.specs.Iterations.{Ends, AtOnce, WithInner, WithOutermost, Loop, Iteration, Mode, failed, with_ok, one_way, view_in, slot_of, slots_of, assigned, assigned_all, target_value, combined_by, tuple_held, closed_by, alone, at_once, wrote, wrote_all, contribution, gave_inner, gave_outermost, deferred_to, reduced}
use Rattle.gm_semantics.specs.Frames.{Agree, ReadsBelow, AllReadBelow, TargetBelow, TargetsBelow, SlotsBelow, GivesBelow, Alike}
use Rattle.gm_semantics.proofs.ExpressionFrames.{agree-write, located-moved, node_of-frame, evaluated-frame}
use Rattle.gm_semantics.proofs.BodyFrames.{evaluated_all-frame, assigned_all-below, agree-write_all}
use Rattle.gm_hoisting.proofs.FoldsAlike.{hoisted_of}

-- ---- reduction assignments

-- the meaning of several expressions from those of each
abbrev pub joined_all : List Evaluated → AllEvaluated
joined_all [] = record { hoisted = None; rest = Ok [] }
joined_all (ev ∷ evs) = and_all ev (joined_all evs)

abbrev pub each_of : View → List Expr → List Evaluated
each_of w es = map (λ e. evaluated e w) es

joined-same : (es : List Expr) (w : View) → evaluated_all es w ≡ joined_all (each_of w es)
joined-same [] w = refl
joined-same (e ∷ es) w = ap (and_all (evaluated e w)) (joined-same es w)

-- a reduction that is done at once
abbrev once : View → Place → Reduce → List Target → List Evaluated → Result (List Slot × List Value) Fault
once w at r (t ∷ []) (ev ∷ []) = alone (assigned w t (combined_by r w at (evaluated (target_value t) w) ev))
once w at r ts evs = assigned_all w ts (closed_by r w at (evaluated_all (map target_value ts) w) (joined_all evs))

once-same : (w : View) (at : Place) (r : Reduce) (ts : List Target) (es : List Expr) → at_once w at r ts es ≡ once w at r ts (each_of w es)
once-same w at r [] es = ap (λ q. assigned_all w [] (closed_by r w at (evaluated_all [] w) q)) (joined-same es w)
once-same w at r (t ∷ []) [] = refl
once-same w at r (t ∷ []) (e ∷ []) = refl
once-same w at r (t ∷ []) (e ∷ (d ∷ es)) = ap (λ q. assigned_all w (t ∷ []) (closed_by r w at (evaluated_all (map target_value (t ∷ [])) w) q)) (joined-same (e ∷ (d ∷ es)) w)
once-same w at r (t ∷ (u ∷ ts)) es = ap (λ q. assigned_all w (t ∷ (u ∷ ts)) (closed_by r w at (evaluated_all (map target_value (t ∷ (u ∷ ts))) w) q)) (joined-same es w)

abbrev pub reduced_so : Ends → View → Iteration → TotalKey → Reduce → List Target → List Evaluated → Iteration
reduced_so AtOnce w it total r ts evs = with_ok it (once w total.place r ts evs) (wrote_all it)
reduced_so WithInner w it total r ts evs = with_ok it (assigned_all w ts (joined_all evs)) (λ p. gave_inner it (contribution total r p))
reduced_so WithOutermost w it total r ts evs = with_ok it (assigned_all w ts (joined_all evs)) (λ p. gave_outermost it (contribution total r p))

pub reduced-same : (ends : Ends) (w : View) (it : Iteration) (total : TotalKey) (r : Reduce) (ts : List Target) (es : List Expr) → reduced ends w it total r ts es ≡ reduced_so ends w it total r ts (each_of w es)
reduced-same AtOnce w it total r ts es = ap (λ q. with_ok it q (wrote_all it)) (once-same w total.place r ts es)
reduced-same WithInner w it total r ts es = ap (λ q. with_ok it (assigned_all w ts q) (λ p. gave_inner it (contribution total r p))) (joined-same es w)
reduced-same WithOutermost w it total r ts es = ap (λ q. with_ok it (assigned_all w ts q) (λ p. gave_outermost it (contribution total r p))) (joined-same es w)

-- what is hoisted comes first
joined-hoisted : (evs : List Evaluated) → (joined_all evs).hoisted ≡ hoisted_of evs
joined-hoisted [] = refl
joined-hoisted (ev ∷ evs) = ap (first ev.hoisted) (joined-hoisted evs)

combined-hoists : (r : Reduce) (w : View) (at : Place) (a b : Evaluated) → (combined_by r w at a b).hoisted ≡ first a.hoisted b.hoisted
combined-hoists Sum w at a b = refl
combined-hoists Product w at a b = refl
combined-hoists Min w at a b = refl
combined-hoists Max w at a b = refl
combined-hoists And w at a b = refl
combined-hoists Or w at a b = refl

first-none : (o : Option Fault) → first o None ≡ o
first-none None = refl
first-none (Some f) = refl

module _ (loop : Loop) (m : Mode) (it : Iteration) (key : Key) where
  abbrev sees : View
  sees = view_in loop m it key

  target-hoists : (t : Target) → (evaluated (target_value t) sees).hoisted ≡ None
  target-hoists (T.Scalar x at) = refl
  target-hoists (T.Property x p at) = refl

  targets-hoist : (ts : List Target) → (evaluated_all (map target_value ts) sees).hoisted ≡ None
  targets-hoist [] = refl
  targets-hoist (t ∷ ts) = ap (λ o. first o (evaluated_all (map target_value ts) sees).hoisted) (target-hoists t) ∙ targets-hoist ts

  all-strict : (ts : List Target) (v : AllEvaluated) (x : Fault) → v.hoisted ≡ Some x → assigned_all sees ts v ≡ Err x
  all-strict ts v x e = ap (λ o. unless_fault o (then_with (slots_of sees ts) (λ ss. then_with v.rest (λ xs. Ok (ss, xs))))) e

  together-strict : (at : Place) (r : Reduce) (ts : List Target) (evs : List Evaluated) (x : Fault) → hoisted_of evs ≡ Some x →
      assigned_all sees ts (closed_by r sees at (evaluated_all (map target_value ts) sees) (joined_all evs)) ≡ Err x
  together-strict at r ts evs x e =
      all-strict ts (closed_by r sees at (evaluated_all (map target_value ts) sees) (joined_all evs)) x (ap (λ o. first o (joined_all evs).hoisted) (targets-hoist ts) ∙ joined-hoisted evs ∙ e)

  once-strict : (at : Place) (r : Reduce) (ts : List Target) (evs : List Evaluated) (x : Fault) → hoisted_of evs ≡ Some x → once sees at r ts evs ≡ Err x
  once-strict at r [] evs x e = together-strict at r [] evs x e
  once-strict at r (t ∷ []) [] x e = together-strict at r (t ∷ []) [] x e
  once-strict at r (t ∷ []) (ev ∷ []) x e =
      let v = combined_by r sees at (evaluated (target_value t) sees) ev in
      let h : v.hoisted ≡ Some x = combined-hoists r sees at (evaluated (target_value t) sees) ev ∙ ap (λ o. first o ev.hoisted) (target-hoists t) ∙ sym (first-none ev.hoisted) ∙ e in
      ap (λ o. alone (unless_fault o (then_with (slot_of sees t) (λ s. then_with v.rest (λ x. Ok (s, x)))))) h
  once-strict at r (t ∷ []) (ev ∷ (eu ∷ evs)) x e = together-strict at r (t ∷ []) (ev ∷ (eu ∷ evs)) x e
  once-strict at r (t ∷ (u ∷ ts)) evs x e = together-strict at r (t ∷ (u ∷ ts)) evs x e

  pub reduced-strict : (ends : Ends) (total : TotalKey) (r : Reduce) (ts : List Target) (evs : List Evaluated) (x : Fault) → hoisted_of evs ≡ Some x → reduced_so ends sees it total r ts evs ≡ failed it x
  reduced-strict AtOnce total r ts evs x e = ap (λ q. with_ok it q (wrote_all it)) (once-strict total.place r ts evs x e)
  reduced-strict WithInner total r ts evs x e = ap (λ q. with_ok it q (λ p. gave_inner it (contribution total r p))) (all-strict ts (joined_all evs) x (joined-hoisted evs ∙ e))
  reduced-strict WithOutermost total r ts evs x e = ap (λ q. with_ok it q (λ p. gave_outermost it (contribution total r p))) (all-strict ts (joined_all evs) x (joined-hoisted evs ∙ e))

-- ---- on iterations that are alike

module _ (k : ℕ) where
  pub failed-alike : (a b : Iteration) (f : Fault) → Alike k a b → Alike k (failed a f) (failed b f)
  failed-alike a b f h = record {
    store = h.store;
    with_inner = h.with_inner;
    with_outermost = h.with_outermost;
    deferred = h.deferred;
    fault = refl;
    inner_below = h.inner_below;
    outermost_below = h.outermost_below;
  }

  pub with_ok-alike : {A : Type 0} (P : A → Type 0) (a b : Iteration) (r q : Result A Fault) (f g : A → Iteration) → Alike k a b → q ≡ r → IfOk r P →
      ((x : A) → P x → Alike k (f x) (g x)) → Alike k (with_ok a r f) (with_ok b q g)
  with_ok-alike {A = A} P a b r q f g h e ok each = subst (λ q. Alike k (with_ok a r f) (with_ok b q g)) (sym e) (same r ok)
    where
      same : (r : Result A Fault) → IfOk r P → Alike k (with_ok a r f) (with_ok b r g)
      same (Ok x) ok = each x ok
      same (Err e) ok = failed-alike a b e h

  any-ok : {A : Type 0} (r : Result A Fault) → IfOk r (λ x. Unit {0})
  any-ok (Ok x) = tt
  any-ok (Err f) = tt

  pub with_value-alike : {A : Type 0} (a b : Iteration) (r q : Result A Fault) (f g : A → Iteration) → Alike k a b → q ≡ r →
      ((x : A) → Alike k (f x) (g x)) → Alike k (with_ok a r f) (with_ok b q g)
  with_value-alike a b r q f g h e each = with_ok-alike (λ x. Unit {0}) a b r q f g h e (any-ok r) (λ x u. each x)

  pub wrote-alike : (a b : Iteration) (p : Slot × Value) → Alike k a b → Alike k (wrote a p) (wrote b p)
  wrote-alike a b p h = record {
    store = agree-write k a.store b.store p.0 p.1 h.store;
    with_inner = h.with_inner;
    with_outermost = h.with_outermost;
    deferred = h.deferred;
    fault = h.fault;
    inner_below = h.inner_below;
    outermost_below = h.outermost_below;
  }

  pub wrote_all-alike : (a b : Iteration) (p : List Slot × List Value) → Alike k a b → Alike k (wrote_all a p) (wrote_all b p)
  wrote_all-alike a b p h = record {
    store = agree-write_all k a.store b.store p.0 p.1 h.store;
    with_inner = h.with_inner;
    with_outermost = h.with_outermost;
    deferred = h.deferred;
    fault = h.fault;
    inner_below = h.inner_below;
    outermost_below = h.outermost_below;
  }

  pub deferred-alike : (a b : Iteration) (p : Slot × Value) → Alike k a b → Alike k (deferred_to a p) (deferred_to b p)
  deferred-alike a b p h = record {
    store = h.store;
    with_inner = h.with_inner;
    with_outermost = h.with_outermost;
    deferred = ap (λ ws. ws ++ record { slot = p.0; value = p.1 } ∷ []) h.deferred;
    fault = h.fault;
    inner_below = h.inner_below;
    outermost_below = h.outermost_below;
  }

  below-append : (xs ys : List Contribution) → GivesBelow k xs → GivesBelow k ys → GivesBelow k (xs ++ ys)
  below-append [] ys h g = g
  below-append (x ∷ xs) ys h g = (h.0, below-append xs ys h.1 g)

  gave_inner-alike : (a b : Iteration) (c : Contribution) → SlotsBelow k c.slots → Alike k a b → Alike k (gave_inner a c) (gave_inner b c)
  gave_inner-alike a b c s h = record {
    store = h.store;
    with_inner = ap (λ cs. cs ++ c ∷ []) h.with_inner;
    with_outermost = h.with_outermost;
    deferred = h.deferred;
    fault = h.fault;
    inner_below = below-append a.with_inner (c ∷ []) h.inner_below (s, tt);
    outermost_below = h.outermost_below;
  }

  gave_outermost-alike : (a b : Iteration) (c : Contribution) → SlotsBelow k c.slots → Alike k a b → Alike k (gave_outermost a c) (gave_outermost b c)
  gave_outermost-alike a b c s h = record {
    store = h.store;
    with_inner = h.with_inner;
    with_outermost = ap (λ cs. cs ++ c ∷ []) h.with_outermost;
    deferred = h.deferred;
    fault = h.fault;
    inner_below = h.inner_below;
    outermost_below = below-append a.with_outermost (c ∷ []) h.outermost_below (s, tt);
  }

  -- slots
  slot_of-frame : (w : View) (t : Store) (target : Target) → TargetBelow k target → Agree k w.store t → slot_of (record w { store = t }) target ≡ slot_of w target
  slot_of-frame w t (T.Scalar x at) b h = refl
  slot_of-frame w t (T.Property x p at) b h = ap (λ r. then_with r (λ n. Ok (Node p n))) (node_of-frame k w t x at b.0 h)

  slots_of-frame : (w : View) (t : Store) (targets : List Target) → TargetsBelow k targets → Agree k w.store t → slots_of (record w { store = t }) targets ≡ slots_of w targets
  slots_of-frame w t [] b h = refl
  slots_of-frame w t (target ∷ targets) b h =
      ap (λ r. then_with r (λ s. then_with (slots_of (record w { store = t }) targets) (λ ss. Ok (s ∷ ss)))) (slot_of-frame w t target b.0 h)
      ∙ ap (λ r. then_with (slot_of w target) (λ s. then_with r (λ ss. Ok (s ∷ ss)))) (slots_of-frame w t targets b.1 h)

  pub assigned-moved : (w : View) (t : Store) (target : Target) (v : Evaluated) → TargetBelow k target → Agree k w.store t → assigned (record w { store = t }) target v ≡ assigned w target v
  assigned-moved w t target v b h = ap (λ r. unless_fault v.hoisted (then_with r (λ s. then_with v.rest (λ x. Ok (s, x))))) (slot_of-frame w t target b h)

  assigned_all-moved : (w : View) (t : Store) (targets : List Target) (v : AllEvaluated) → TargetsBelow k targets → Agree k w.store t →
      assigned_all (record w { store = t }) targets v ≡ assigned_all w targets v
  assigned_all-moved w t targets v b h = ap (λ r. unless_fault v.hoisted (then_with r (λ ss. then_with v.rest (λ xs. Ok (ss, xs))))) (slots_of-frame w t targets b h)

  combined-moved : (r : Reduce) (w : View) (t : Store) (at : Place) (a b : Evaluated) → combined_by r (record w { store = t }) at a b ≡ combined_by r w at a b
  combined-moved Sum w t at a b = ap (two_of a b) (fun_ext (λ x. fun_ext (λ y. located-moved w t at (close Sum x (y ∷ [])))))
  combined-moved Product w t at a b = ap (two_of a b) (fun_ext (λ x. fun_ext (λ y. located-moved w t at (close Product x (y ∷ [])))))
  combined-moved Min w t at a b = ap (two_of a b) (fun_ext (λ x. fun_ext (λ y. located-moved w t at (close Min x (y ∷ [])))))
  combined-moved Max w t at a b = ap (two_of a b) (fun_ext (λ x. fun_ext (λ y. located-moved w t at (close Max x (y ∷ [])))))
  combined-moved And w t at a b = refl
  combined-moved Or w t at a b = refl

  tuple-moved : (w : View) (t : Store) (at : Place) (o : Option (List Value)) → tuple_held (record w { store = t }) at o ≡ tuple_held w at o
  tuple-moved w t at (Some vs) = refl
  tuple-moved w t at None = refl

  closed-moved : (r : Reduce) (w : View) (t : Store) (at : Place) (a b : AllEvaluated) → closed_by r (record w { store = t }) at a b ≡ closed_by r w at a b
  closed-moved r w t at a b =
      ap (λ f. record { hoisted = first a.hoisted b.hoisted; rest = then_with a.rest (λ held. then_with b.rest (f held)) })
      (fun_ext (λ held. fun_ext (λ vs. tuple-moved w t at (close_slots r held (vs ∷ [])))))

  value-below : (target : Target) → TargetBelow k target → ReadsBelow k (target_value target)
  value-below (T.Scalar x at) b = b
  value-below (T.Property x p at) b = b

  values-below : (targets : List Target) → TargetsBelow k targets → AllReadBelow k (map target_value targets)
  values-below [] b = tt
  values-below (target ∷ targets) b = (value-below target b.0, values-below targets b.1)

  together-moved : (w : View) (t : Store) (at : Place) (r : Reduce) (targets : List Target) (evs : List Evaluated) → TargetsBelow k targets → Agree k w.store t →
      assigned_all (record w { store = t }) targets (closed_by r (record w { store = t }) at (evaluated_all (map target_value targets) (record w { store = t })) (joined_all evs))
      ≡ assigned_all w targets (closed_by r w at (evaluated_all (map target_value targets) w) (joined_all evs))
  together-moved w t at r targets evs b h =
      let u : View = record w { store = t } in
      assigned_all-moved w t targets (closed_by r u at (evaluated_all (map target_value targets) u) (joined_all evs)) b h
      ∙ ap (assigned_all w targets) (closed-moved r w t at (evaluated_all (map target_value targets) u) (joined_all evs))
      ∙ ap (λ a. assigned_all w targets (closed_by r w at a (joined_all evs))) (evaluated_all-frame k (map target_value targets) w t (values-below targets b) h)

  once-moved : (w : View) (t : Store) (at : Place) (r : Reduce) (targets : List Target) (evs : List Evaluated) → TargetsBelow k targets → Agree k w.store t →
      once (record w { store = t }) at r targets evs ≡ once w at r targets evs
  once-moved w t at r [] evs b h = together-moved w t at r [] evs b h
  once-moved w t at r (x ∷ []) [] b h = together-moved w t at r (x ∷ []) [] b h
  once-moved w t at r (x ∷ []) (ev ∷ []) b h =
      let u : View = record w { store = t } in
      ap alone
      (assigned-moved w t x (combined_by r u at (evaluated (target_value x) u) ev) b.0 h
      ∙ ap (assigned w x) (combined-moved r w t at (evaluated (target_value x) u) ev)
      ∙ ap (λ a. assigned w x (combined_by r w at a ev)) (evaluated-frame k (target_value x) w t (value-below x b.0) h))
  once-moved w t at r (x ∷ []) (ev ∷ (eu ∷ evs)) b h = together-moved w t at r (x ∷ []) (ev ∷ (eu ∷ evs)) b h
  once-moved w t at r (x ∷ (y ∷ xs)) evs b h = together-moved w t at r (x ∷ (y ∷ xs)) evs b h

  pub reduced-alike : (ends : Ends) (loop : Loop) (m : Mode) (key : Key) (total : TotalKey) (r : Reduce) (targets : List Target) (evs : List Evaluated) (a b : Iteration) →
      TargetsBelow k targets → Alike k a b →
      Alike k (reduced_so ends (view_in loop m a key) a total r targets evs) (reduced_so ends (view_in loop m b key) b total r targets evs)
  reduced-alike AtOnce loop m key total r targets evs a b bt h =
      with_value-alike a b _ _ (wrote_all a) (wrote_all b) h (once-moved (view_in loop m a key) b.store total.place r targets evs bt h.store) (λ p. wrote_all-alike a b p h)
  reduced-alike WithInner loop m key total r targets evs a b bt h =
      let w = view_in loop m a key in
      with_ok-alike (λ q. SlotsBelow k q.0) a b _ _ (λ p. gave_inner a (contribution total r p)) (λ p. gave_inner b (contribution total r p)) h (assigned_all-moved w b.store targets (joined_all evs) bt h.store)
      (assigned_all-below k w targets (joined_all evs) bt) (λ p s. gave_inner-alike a b (contribution total r p) s h)
  reduced-alike WithOutermost loop m key total r targets evs a b bt h =
      let w = view_in loop m a key in
      with_ok-alike (λ q. SlotsBelow k q.0) a b _ _ (λ p. gave_outermost a (contribution total r p)) (λ p. gave_outermost b (contribution total r p)) h (assigned_all-moved w b.store targets (joined_all evs) bt h.store)
      (assigned_all-below k w targets (joined_all evs) bt) (λ p s. gave_outermost-alike a b (contribution total r p) s h)

  pub one_way-alike : (v : Bool) (f g f' g' : Iteration → Iteration) (a b : Iteration) → Alike k (f a) (f' b) → Alike k (g a) (g' b) → Alike k (one_way v f g a) (one_way v f' g' b)
  one_way-alike true f g f' g' a b h i = h
  one_way-alike false f g f' g' a b h i = i
