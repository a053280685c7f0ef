-- A statement of a body reads what it names alone.
use Rattle.std.proofs.Common.{◌≡◌, ℕ, Bool, true, false, cond, List, [], ◌∷◌, ◌++◌, map, refl, sym, ap, subst, ◌∙◌, Option, Some, None, Result, Ok, Err}
use Rattle.std.proofs.Math.Path.{fun_ext}
use Rattle.std.specs.Prelude.{IfOk}
use Rattle.gm_base.specs.declared.places.Place.{Place}
use Rattle.gm_value.specs.declared.values.Value.{Value}
use Rattle.gm_value.specs.declared.values.Value.TheVariants.{At}
use Rattle.gm_value.specs.declared.reductions.Reduce.{Reduce}
use Rattle.gm_value.specs.declared.reductions.Reduce.TheVariants.{Sum, Product, Min, Max, And, Or}
use Rattle.gm_value.specs.Numbers.{zero_of}
use Rattle.gm_value.specs.Operations.{is_true}
use Rattle.gm_value.specs.Reductions.{close}
use Rattle.gm_value.specs.Tuples.{close_slots}
use Rattle.gm_model.specs.Graphs.{Step}
use Rattle.gm_ast.specs.declared.tree.Key.{Key}
use Rattle.gm_ast.specs.declared.tree.TotalKey.{TotalKey}
use Rattle.gm_ast.specs.declared.tree.Target.{Target}
use Rattle.gm_ast.specs.declared.tree.Target.TheVariants as T
use Rattle.gm_ast.specs.Program.{Expr, Stmt, Skip, Then, Declare, DeclareEdge, Assign, Defer, Combine, Group, Foreach, For, If, While, Do, InBfs, InBfsBoth, Return}
use Rattle.gm_semantics.specs.declared.faults.Fault.{Fault}
use Rattle.gm_semantics.specs.declared.slots.Slot.{Slot}
use Rattle.gm_semantics.specs.declared.slots.Slot.TheVariants.{Scalar, Node}
use Rattle.gm_semantics.specs.Stores.{Store, has_slot, read, reads, write, write_all}
use Rattle.gm_semantics.specs.Faults.{least, first, then_with, unless_fault, somes, joined}
use Rattle.gm_semantics.specs.Expressions.{View, Evaluated, AllEvaluated, and_all, node_of, two_of, evaluated, evaluated_all, value, settled, steps_in}
use Rattle.gm_semantics.specs.Contributions.{Contribution, to_target, target_of, taken_onto, values_or, fault_in, value_among, value_after, target_fault, settled_store, total_faults}
use Rattle.gm_semantics.specs.Iterations.{Ends, AtOnce, WithInner, WithOutermost, Loop, Iteration, begun, failed, unless_failed, go_on, with_ok, one_way, as_it_is, Mode, Outermost, AtEdge, view_in, slot_of, slots_of, assigned, assigned_all, target_value, combined_by, tuple_held, closed_by, together, alone, at_once, ends_of_all, wrote, wrote_all, contribution, gave_inner, gave_outermost, deferred_to, reduced, outer_only, inner_done, turn_at, does}
use Rattle.gm_semantics.specs.Frames.{Agree, ReadsBelow, AllReadBelow, TargetBelow, TargetsBelow, NamesBelow, SlotBelow, SlotsBelow, GivesBelow, Alike}
use Rattle.gm_semantics.proofs.ExpressionFrames.{agree-write, located-moved, node_of-frame, steps_in-frame, evaluated-frame}

module _ (k : ℕ) where
  value-frame : (e : Expr) (w : View) (t : Store) → ReadsBelow k e → Agree k w.store t → value e (record w { store = t }) ≡ value e w
  value-frame e w t b h = ap settled (evaluated-frame k e w t b h)

  slot_of-frame : (w : View) (t : Store) (target : Target) → TargetBelow k target → Agree k w.store t → slot_of (record w { store = t }) target ≡ slot_of w target
  slot_of-frame w t (T.Scalar x at) b h = refl
  slot_of-frame w t (T.Property x p at) b h = ap (λ r. then_with r (λ n. Ok (Node p n))) (node_of-frame k w t x at b.0 h)

  assigned-frame : (w : View) (t : Store) (target : Target) (v : Evaluated) → TargetBelow k target → Agree k w.store t → assigned (record w { store = t }) target v ≡ assigned w target v
  assigned-frame w t target v b h = ap (λ r. unless_fault v.hoisted (then_with r (λ s. then_with v.rest (λ x. Ok (s, x))))) (slot_of-frame w t target b h)

  target_value-below : (target : Target) → TargetBelow k target → ReadsBelow k (target_value target)
  target_value-below (T.Scalar x at) b = b
  target_value-below (T.Property x p at) b = b

  combined-moved : (r : Reduce) (w : View) (t : Store) (at : Place) (a b : Evaluated) → combined_by r (record w { store = t }) at a b ≡ combined_by r w at a b
  combined-moved Sum w t at a b = ap (two_of a b) (fun_ext (λ x. fun_ext (λ y. located-moved w t at (close Sum x (y ∷ [])))))
  combined-moved Product w t at a b = ap (two_of a b) (fun_ext (λ x. fun_ext (λ y. located-moved w t at (close Product x (y ∷ [])))))
  combined-moved Min w t at a b = ap (two_of a b) (fun_ext (λ x. fun_ext (λ y. located-moved w t at (close Min x (y ∷ [])))))
  combined-moved Max w t at a b = ap (two_of a b) (fun_ext (λ x. fun_ext (λ y. located-moved w t at (close Max x (y ∷ [])))))
  combined-moved And w t at a b = refl
  combined-moved Or w t at a b = refl

  single-frame : (w : View) (t : Store) (at : Place) (r : Reduce) (target : Target) (e : Expr) → TargetBelow k target → ReadsBelow k e → Agree k w.store t →
      at_once (record w { store = t }) at r (target ∷ []) (e ∷ []) ≡ at_once w at r (target ∷ []) (e ∷ [])
  single-frame w t at r target e bt be h =
      let u : View = record w { store = t } in
      ap alone
      (assigned-frame w t target (combined_by r u at (evaluated (target_value target) u) (evaluated e u)) bt h
      ∙ ap (assigned w target) (combined-moved r w t at (evaluated (target_value target) u) (evaluated e u))
      ∙ ap (λ a. assigned w target (combined_by r w at a (evaluated e u))) (evaluated-frame k (target_value target) w t (target_value-below target bt) h)
      ∙ ap (λ b. assigned w target (combined_by r w at (evaluated (target_value target) w) b)) (evaluated-frame k e w t be h))

  -- the same of several targets and expressions
  slots_of-frame : (w : View) (t : Store) (targets : List Target) → TargetsBelow k targets → Agree k w.store t → slots_of (record w { store = t }) targets ≡ slots_of w targets
  slots_of-frame w t [] b h = refl
  slots_of-frame w t (target ∷ targets) b h =
      ap (λ r. then_with r (λ s. then_with (slots_of (record w { store = t }) targets) (λ ss. Ok (s ∷ ss)))) (slot_of-frame w t target b.0 h)
      ∙ ap (λ r. then_with (slot_of w target) (λ s. then_with r (λ ss. Ok (s ∷ ss)))) (slots_of-frame w t targets b.1 h)

  pub evaluated_all-frame : (es : List Expr) (w : View) (t : Store) → AllReadBelow k es → Agree k w.store t → evaluated_all es (record w { store = t }) ≡ evaluated_all es w
  evaluated_all-frame [] w t b h = refl
  evaluated_all-frame (e ∷ es) w t b h =
      ap (λ a. and_all a (evaluated_all es (record w { store = t }))) (evaluated-frame k e w t b.0 h) ∙ ap (and_all (evaluated e w)) (evaluated_all-frame es w t b.1 h)

  assigned_all-moved : (w : View) (t : Store) (targets : List Target) (v : AllEvaluated) → TargetsBelow k targets → Agree k w.store t →
      assigned_all (record w { store = t }) targets v ≡ assigned_all w targets v
  assigned_all-moved w t targets v b h = ap (λ r. unless_fault v.hoisted (then_with r (λ ss. then_with v.rest (λ xs. Ok (ss, xs))))) (slots_of-frame w t targets b h)

  pub assign_all-frame : (w : View) (t : Store) (targets : List Target) (es : List Expr) → TargetsBelow k targets → AllReadBelow k es → Agree k w.store t →
      assigned_all (record w { store = t }) targets (evaluated_all es (record w { store = t })) ≡ assigned_all w targets (evaluated_all es w)
  assign_all-frame w t targets es bt be h =
      assigned_all-moved w t targets (evaluated_all es (record w { store = t })) bt h ∙ ap (assigned_all w targets) (evaluated_all-frame es w t be h)

  target_values-below : (targets : List Target) → TargetsBelow k targets → AllReadBelow k (map target_value targets)
  target_values-below [] b = tt
  target_values-below (target ∷ targets) b = (target_value-below target b.0, target_values-below targets b.1)

  tuple-moved : (w : View) (t : Store) (at : Place) (o : Option (List Value)) → tuple_held (record w { store = t }) at o ≡ tuple_held w at o
  tuple-moved w t at (Some vs) = refl
  tuple-moved w t at None = refl

  closed-moved : (r : Reduce) (w : View) (t : Store) (at : Place) (a b : AllEvaluated) → closed_by r (record w { store = t }) at a b ≡ closed_by r w at a b
  closed-moved r w t at a b =
      ap (λ f. record { hoisted = first a.hoisted b.hoisted; rest = then_with a.rest (λ held. then_with b.rest (f held)) })
      (fun_ext (λ held. fun_ext (λ vs. tuple-moved w t at (close_slots r held (vs ∷ [])))))

  together-frame : (w : View) (t : Store) (at : Place) (r : Reduce) (targets : List Target) (es : List Expr) → TargetsBelow k targets → AllReadBelow k es → Agree k w.store t →
      together (record w { store = t }) at r targets es ≡ together w at r targets es
  together-frame w t at r targets es bt be h =
      let u : View = record w { store = t } in
      assigned_all-moved w t targets (closed_by r u at (evaluated_all (map target_value targets) u) (evaluated_all es u)) bt h
      ∙ ap (assigned_all w targets) (closed-moved r w t at (evaluated_all (map target_value targets) u) (evaluated_all es u))
      ∙ ap (λ a. assigned_all w targets (closed_by r w at a (evaluated_all es u))) (evaluated_all-frame (map target_value targets) w t (target_values-below targets bt) h)
      ∙ ap (λ b. assigned_all w targets (closed_by r w at (evaluated_all (map target_value targets) w) b)) (evaluated_all-frame es w t be h)

  pub at_once-frame : (w : View) (t : Store) (at : Place) (r : Reduce) (targets : List Target) (es : List Expr) → TargetsBelow k targets → AllReadBelow k es → Agree k w.store t →
      at_once (record w { store = t }) at r targets es ≡ at_once w at r targets es
  at_once-frame w t at r [] es bt be h = together-frame w t at r [] es bt be h
  at_once-frame w t at r (x ∷ []) [] bt be h = together-frame w t at r (x ∷ []) [] bt be h
  at_once-frame w t at r (x ∷ []) (e ∷ []) bt be h = single-frame w t at r x e bt.0 be.0 h
  at_once-frame w t at r (x ∷ []) (e ∷ (d ∷ es)) bt be h = together-frame w t at r (x ∷ []) (e ∷ (d ∷ es)) bt be h
  at_once-frame w t at r (x ∷ (y ∷ xs)) es bt be h = together-frame w t at r (x ∷ (y ∷ xs)) es bt be h

  pub assign-frame : (w : View) (t : Store) (target : Target) (e : Expr) → TargetBelow k target → ReadsBelow k e → Agree k w.store t →
      assigned (record w { store = t }) target (evaluated e (record w { store = t })) ≡ assigned w target (evaluated e w)
  assign-frame w t target e bt be h =
      assigned-frame w t target (evaluated e (record w { store = t })) bt h ∙ ap (assigned w target) (evaluated-frame k e w t be h)

  -- the slots of targets are the targets'
  slot_of-below : (w : View) (target : Target) → TargetBelow k target → IfOk (slot_of w target) (SlotBelow k)
  slot_of-below w (T.Scalar x at) b = b
  slot_of-below w (T.Property x p at) b = node-below (node_of w x at)
    where
      node-below : (r : Result ℕ Fault) → IfOk (then_with r (λ n. Ok (Node p n))) (SlotBelow k)
      node-below (Ok n) = b.1
      node-below (Err f) = tt

  both-below : (r : Result Slot Fault) (rs : Result (List Slot) Fault) → IfOk r (SlotBelow k) → IfOk rs (SlotsBelow k) →
      IfOk (then_with r (λ s. then_with rs (λ ss. Ok (s ∷ ss)))) (SlotsBelow k)
  both-below (Ok s) (Ok ss) b bs = (b, bs)
  both-below (Ok s) (Err f) b bs = tt
  both-below (Err f) rs b bs = tt

  slots_of-below : (w : View) (targets : List Target) → TargetsBelow k targets → IfOk (slots_of w targets) (SlotsBelow k)
  slots_of-below w [] b = tt
  slots_of-below w (target ∷ targets) b = both-below (slot_of w target) (slots_of w targets) (slot_of-below w target b.0) (slots_of-below w targets b.1)

  parts-below : (o : Option Fault) (rs : Result (List Slot) Fault) (vs : Result (List Value) Fault) → IfOk rs (SlotsBelow k) →
      IfOk {T = List Slot × List Value} (unless_fault o (then_with rs (λ ss. then_with vs (λ xs. Ok (ss, xs))))) (λ q. SlotsBelow k q.0)
  parts-below (Some f) rs vs b = tt
  parts-below None (Err f) vs b = tt
  parts-below None (Ok ss) (Err f) b = tt
  parts-below None (Ok ss) (Ok xs) b = b

  pub assigned_all-below : (w : View) (targets : List Target) (v : AllEvaluated) → TargetsBelow k targets → IfOk (assigned_all w targets v) (λ q. SlotsBelow k q.0)
  assigned_all-below w targets v b = parts-below v.hoisted (slots_of w targets) v.rest (slots_of-below w targets b)

  -- contributions to slots below the number
  below-append : (xs ys : List Contribution) → GivesBelow k xs → GivesBelow k ys → GivesBelow k (xs ++ ys)
  below-append [] ys h g = g
  below-append (x ∷ xs) ys h g = (h.0, below-append xs ys h.1 g)

  -- parts of an iteration are alike where their iterations are
  failed-alike : (a b : Iteration) (f : Fault) → Alike k a b → Alike k (failed a f) (failed b f)
  failed-alike a b f h = record {
    store = h.store;
    with_inner = h.with_inner;
    with_outermost = h.with_outermost;
    deferred = h.deferred;
    fault = refl;
    inner_below = h.inner_below;
    outermost_below = h.outermost_below;
  }

  with_ok-alike : {A : Type 0} (P : A → Type 0) (a b : Iteration) (r q : Result A Fault) (f g : A → Iteration) → Alike k a b → q ≡ r → IfOk r P →
      ((x : A) → P x → Alike k (f x) (g x)) → Alike k (with_ok a r f) (with_ok b q g)
  with_ok-alike {A = A} P a b r q f g h e ok each = subst (λ q. Alike k (with_ok a r f) (with_ok b q g)) (sym e) (same r ok)
    where
      same : (r : Result A Fault) → IfOk r P → Alike k (with_ok a r f) (with_ok b r g)
      same (Ok x) ok = each x ok
      same (Err e) ok = failed-alike a b e h

  any-ok : {A : Type 0} (r : Result A Fault) → IfOk r (λ x. Unit {0})
  any-ok (Ok x) = tt
  any-ok (Err f) = tt

  with_value-alike : {A : Type 0} (a b : Iteration) (r q : Result A Fault) (f g : A → Iteration) → Alike k a b → q ≡ r →
      ((x : A) → Alike k (f x) (g x)) → Alike k (with_ok a r f) (with_ok b q g)
  with_value-alike a b r q f g h e each = with_ok-alike (λ x. Unit {0}) a b r q f g h e (any-ok r) (λ x u. each x)

  wrote-alike : (a b : Iteration) (p : Slot × Value) → Alike k a b → Alike k (wrote a p) (wrote b p)
  wrote-alike a b p h = record {
    store = agree-write k a.store b.store p.0 p.1 h.store;
    with_inner = h.with_inner;
    with_outermost = h.with_outermost;
    deferred = h.deferred;
    fault = h.fault;
    inner_below = h.inner_below;
    outermost_below = h.outermost_below;
  }

  pub agree-write_all : (s t : Store) (slots : List Slot) (values : List Value) → Agree k s t → Agree k (write_all s slots values) (write_all t slots values)
  agree-write_all s t [] values h = h
  agree-write_all s t (x ∷ xs) [] h = h
  agree-write_all s t (x ∷ xs) (v ∷ vs) h = agree-write_all (write s x v) (write t x v) xs vs (agree-write k s t x v h)

  wrote_all-alike : (a b : Iteration) (p : List Slot × List Value) → Alike k a b → Alike k (wrote_all a p) (wrote_all b p)
  wrote_all-alike a b p h = record {
    store = agree-write_all a.store b.store p.0 p.1 h.store;
    with_inner = h.with_inner;
    with_outermost = h.with_outermost;
    deferred = h.deferred;
    fault = h.fault;
    inner_below = h.inner_below;
    outermost_below = h.outermost_below;
  }

  gave_inner-alike : (a b : Iteration) (c : Contribution) → SlotsBelow k c.slots → Alike k a b → Alike k (gave_inner a c) (gave_inner b c)
  gave_inner-alike a b c s h = record {
    store = h.store;
    with_inner = ap (λ cs. cs ++ c ∷ []) h.with_inner;
    with_outermost = h.with_outermost;
    deferred = h.deferred;
    fault = h.fault;
    inner_below = below-append a.with_inner (c ∷ []) h.inner_below (s, tt);
    outermost_below = h.outermost_below;
  }

  gave_outermost-alike : (a b : Iteration) (c : Contribution) → SlotsBelow k c.slots → Alike k a b → Alike k (gave_outermost a c) (gave_outermost b c)
  gave_outermost-alike a b c s h = record {
    store = h.store;
    with_inner = h.with_inner;
    with_outermost = ap (λ cs. cs ++ c ∷ []) h.with_outermost;
    deferred = h.deferred;
    fault = h.fault;
    inner_below = h.inner_below;
    outermost_below = below-append a.with_outermost (c ∷ []) h.outermost_below (s, tt);
  }

  deferred-alike : (a b : Iteration) (p : Slot × Value) → Alike k a b → Alike k (deferred_to a p) (deferred_to b p)
  deferred-alike a b p h = record {
    store = h.store;
    with_inner = h.with_inner;
    with_outermost = h.with_outermost;
    deferred = ap (λ ws. ws ++ record { slot = p.0; value = p.1 } ∷ []) h.deferred;
    fault = h.fault;
    inner_below = h.inner_below;
    outermost_below = h.outermost_below;
  }

  go_on-alike : (a b : Iteration) (f g : Iteration → Iteration) → Alike k a b → ((c d : Iteration) → Alike k c d → Alike k (f c) (g d)) → Alike k (go_on a f) (go_on b g)
  go_on-alike a b f g h each = subst (λ o. Alike k (go_on a f) (unless_failed o b g)) (sym h.fault) (same a.fault)
    where
      same : (o : Option Fault) → Alike k (unless_failed o a f) (unless_failed o b g)
      same None = each a b h
      same (Some e) = h

  one_way-alike : (v : Bool) (f g f' g' : Iteration → Iteration) (a b : Iteration) → Alike k (f a) (f' b) → Alike k (g a) (g' b) → Alike k (one_way v f g a) (one_way v f' g' b)
  one_way-alike true f g f' g' a b h i = h
  one_way-alike false f g f' g' a b h i = i

  outer_only-alike : (m : Mode) (f g : Iteration → Iteration) (a b : Iteration) → Alike k a b → ((c d : Iteration) → Alike k c d → Alike k (f c) (g d)) → Alike k (outer_only m f a) (outer_only m g b)
  outer_only-alike Outermost f g a b h each = each a b h
  outer_only-alike (AtEdge e) f g a b h each = h

  -- taking contributions onto stores that agree
  read-agree : (s t : Store) (slot : Slot) → SlotBelow k slot → Agree k s t → read t slot ≡ read s slot
  read-agree s t (Scalar x) b h = h.scalar x b
  read-agree s t (Node p n) b h = h.node p n b

  reads-agree : (s t : Store) (slots : List Slot) → SlotsBelow k slots → Agree k s t → reads t slots ≡ reads s slots
  reads-agree s t [] b h = refl
  reads-agree s t (x ∷ xs) b h = ap (λ v. v ∷ reads t xs) (read-agree s t x b.0 h) ∙ ap (λ vs. read s x ∷ vs) (reads-agree s t xs b.1 h)

  -- a slot's target is below the number where the slot and the contributions are
  chosen-below : (b : Bool) (xs ys : List Slot) → SlotsBelow k xs → SlotsBelow k ys → SlotsBelow k (cond b xs ys)
  chosen-below true xs ys h g = h
  chosen-below false xs ys h g = g

  target_of-below : (slot : Slot) (cs : List Contribution) → SlotBelow k slot → GivesBelow k cs → SlotsBelow k (target_of slot cs)
  target_of-below slot [] b g = (b, tt)
  target_of-below slot (c ∷ cs) b g = chosen-below (has_slot slot c.slots) c.slots (target_of slot cs) g.0 (target_of-below slot cs b g.1)

  value_after-agree : (s t : Store) (cs : List Contribution) (slot : Slot) → SlotBelow k slot → GivesBelow k cs → Agree k s t → value_after t cs slot ≡ value_after s cs slot
  value_after-agree s t cs slot b g h =
      let slots = target_of slot cs in
      let mine = to_target slots cs in
      ap (λ held. value_among slot slots (values_or held (taken_onto held mine)) (read t slot)) (reads-agree s t slots (target_of-below slot cs b g) h)
      ∙ ap (value_among slot slots (values_or (reads s slots) (taken_onto (reads s slots) mine))) (read-agree s t slot b h)

  pub settled-agree : (s t : Store) (cs : List Contribution) → GivesBelow k cs → Agree k s t → Agree k (settled_store s cs) (settled_store t cs)
  settled-agree s t cs g h = record {
    scalar = λ x b. value_after-agree s t cs (Scalar x) b g h;
    node = λ p n b. value_after-agree s t cs (Node p n) b g h;
    edge = h.edge;
  }

  target_fault-agree : (s t : Store) (cs : List Contribution) (slots : List Slot) → SlotsBelow k slots → Agree k s t → target_fault t cs slots ≡ target_fault s cs slots
  target_fault-agree s t cs slots b h = ap (λ held. fault_in (to_target slots cs) (taken_onto held (to_target slots cs))) (reads-agree s t slots b h)

  faults-agree : (s t : Store) (cs ds : List Contribution) → GivesBelow k ds → Agree k s t → map (λ c. target_fault t cs c.slots) ds ≡ map (λ c. target_fault s cs c.slots) ds
  faults-agree s t cs [] b h = refl
  faults-agree s t cs (d ∷ ds) b h =
      ap (λ o. o ∷ map (λ c. target_fault t cs c.slots) ds) (target_fault-agree s t cs d.slots b.0 h) ∙ ap (λ os. target_fault s cs d.slots ∷ os) (faults-agree s t cs ds b.1 h)

  pub total_faults-agree : (s t : Store) (cs : List Contribution) → GivesBelow k cs → Agree k s t → total_faults t cs ≡ total_faults s cs
  total_faults-agree s t cs b h = ap somes (faults-agree s t cs cs b h)

  -- iterations one by one
  abbrev pub EachAlike : List Iteration → List Iteration → Type 0
  EachAlike [] [] = Unit {0}
  EachAlike (a ∷ xs) (b ∷ ys) = Alike k a b × EachAlike xs ys
  EachAlike _ _ = ⊥

  pub each-mapped : {A : Type 0} (f g : A → Iteration) (xs : List A) → ((x : A) → Alike k (f x) (g x)) → EachAlike (map f xs) (map g xs)
  each-mapped f g [] h = tt
  each-mapped f g (x ∷ xs) h = (h x, each-mapped f g xs h)

  inner-joined : (xs ys : List Iteration) → EachAlike xs ys → joined (map (λ t. t.with_inner) ys) ≡ joined (map (λ t. t.with_inner) xs)
  inner-joined [] [] h = refl
  inner-joined [] (y ∷ ys) h = absurd h
  inner-joined (x ∷ xs) [] h = absurd h
  inner-joined (x ∷ xs) (y ∷ ys) h = ap (λ cs. cs ++ joined (map (λ t. t.with_inner) ys)) h.0.with_inner ∙ ap (λ cs. x.with_inner ++ cs) (inner-joined xs ys h.1)

  pub outermost-joined : (xs ys : List Iteration) → EachAlike xs ys → joined (map (λ t. t.with_outermost) ys) ≡ joined (map (λ t. t.with_outermost) xs)
  outermost-joined [] [] h = refl
  outermost-joined [] (y ∷ ys) h = absurd h
  outermost-joined (x ∷ xs) [] h = absurd h
  outermost-joined (x ∷ xs) (y ∷ ys) h = ap (λ cs. cs ++ joined (map (λ t. t.with_outermost) ys)) h.0.with_outermost ∙ ap (λ cs. x.with_outermost ++ cs) (outermost-joined xs ys h.1)

  pub deferred-joined : (xs ys : List Iteration) → EachAlike xs ys → joined (map (λ t. t.deferred) ys) ≡ joined (map (λ t. t.deferred) xs)
  deferred-joined [] [] h = refl
  deferred-joined [] (y ∷ ys) h = absurd h
  deferred-joined (x ∷ xs) [] h = absurd h
  deferred-joined (x ∷ xs) (y ∷ ys) h = ap (λ cs. cs ++ joined (map (λ t. t.deferred) ys)) h.0.deferred ∙ ap (λ cs. x.deferred ++ cs) (deferred-joined xs ys h.1)

  pub faults-mapped : (xs ys : List Iteration) → EachAlike xs ys → map (λ t. t.fault) ys ≡ map (λ t. t.fault) xs
  faults-mapped [] [] h = refl
  faults-mapped [] (y ∷ ys) h = absurd h
  faults-mapped (x ∷ xs) [] h = absurd h
  faults-mapped (x ∷ xs) (y ∷ ys) h = ap (λ o. o ∷ map (λ t. t.fault) ys) h.0.fault ∙ ap (λ os. x.fault ∷ os) (faults-mapped xs ys h.1)

  inner-all_below : (xs ys : List Iteration) → EachAlike xs ys → GivesBelow k (joined (map (λ t. t.with_inner) xs))
  inner-all_below [] ys h = tt
  inner-all_below (x ∷ xs) [] h = absurd h
  inner-all_below (x ∷ xs) (y ∷ ys) h = below-append x.with_inner _ h.0.inner_below (inner-all_below xs ys h.1)

  pub outermost-all_below : (xs ys : List Iteration) → EachAlike xs ys → GivesBelow k (joined (map (λ t. t.with_outermost) xs))
  outermost-all_below [] ys h = tt
  outermost-all_below (x ∷ xs) [] h = absurd h
  outermost-all_below (x ∷ xs) (y ∷ ys) h = below-append x.with_outermost _ h.0.outermost_below (outermost-all_below xs ys h.1)

  inner_done-alike : (a b : Iteration) (xs ys : List Iteration) → Alike k a b → EachAlike xs ys → Alike k (inner_done a xs) (inner_done b ys)
  inner_done-alike a b xs ys h each =
      let cs = joined (map (λ (t : Iteration). t.with_inner) xs) in
      record {
        store = subst (λ ds. Agree k (settled_store a.store cs) (settled_store b.store ds)) (sym (inner-joined xs ys each)) (settled-agree a.store b.store cs (inner-all_below xs ys each) h.store);
        with_inner = h.with_inner;
        with_outermost = ap (λ os. os ++ joined (map (λ t. t.with_outermost) ys)) h.with_outermost ∙ ap (λ os. a.with_outermost ++ os) (outermost-joined xs ys each);
        deferred = h.deferred;
        fault = ap (λ os. least (somes os ++ total_faults b.store (joined (map (λ t. t.with_inner) ys)))) (faults-mapped xs ys each)
            ∙ ap (λ ds. least (somes (map (λ t. t.fault) xs) ++ total_faults b.store ds)) (inner-joined xs ys each)
            ∙ ap (λ fs. least (somes (map (λ t. t.fault) xs) ++ fs)) (total_faults-agree a.store b.store cs (inner-all_below xs ys each) h.store);
        inner_below = h.inner_below;
        outermost_below = below-append a.with_outermost _ h.outermost_below (outermost-all_below xs ys each);
      }

  begun-alike : (s t : Store) → Agree k s t → Alike k (begun s) (begun t)
  begun-alike s t h = record { store = h; with_inner = refl; with_outermost = refl; deferred = refl; fault = refl; inner_below = tt; outermost_below = tt }

  pub turn-alike : (loop : Loop) (m : Mode) (key : Key) (test : Expr) (body : Iteration → Iteration) (iterator n : ℕ) (s t : Store) → ReadsBelow k test → Agree k s t →
      ((a b : Iteration) → Alike k a b → Alike k (body a) (body b)) → Alike k (turn_at loop m key test body iterator n s) (turn_at loop m key test body iterator n t)
  turn-alike loop m key test body iterator n s t b h each =
      let a = begun (write s (Scalar iterator) (At (Some n))) in
      let c = begun (write t (Scalar iterator) (At (Some n))) in
      let start = begun-alike _ _ (agree-write k s t (Scalar iterator) (At (Some n)) h) in
      with_value-alike a c (value test (view_in loop m a key)) (value test (view_in loop m c key)) (λ v. one_way (is_true v) body as_it_is a) (λ v. one_way (is_true v) body as_it_is c) start
      (value-frame test (view_in loop m a key) c.store b start.store) (λ v. one_way-alike (is_true v) body as_it_is body as_it_is a c (each a c start) start)

  reduced-alike : (ends : Ends) (loop : Loop) (m : Mode) (key : Key) (total : TotalKey) (r : Reduce) (targets : List Target) (es : List Expr) (a b : Iteration) →
      TargetsBelow k targets → AllReadBelow k es → Alike k a b →
      Alike k (reduced ends (view_in loop m a key) a total r targets es) (reduced ends (view_in loop m b key) b total r targets es)
  reduced-alike AtOnce loop m key total r targets es a b bt be h =
      with_value-alike a b _ _ (wrote_all a) (wrote_all b) h (at_once-frame (view_in loop m a key) b.store total.place r targets es bt be h.store) (λ p. wrote_all-alike a b p h)
  reduced-alike WithInner loop m key total r targets es a b bt be h =
      let w = view_in loop m a key in
      with_ok-alike (λ q. SlotsBelow k q.0) a b _ _ (λ p. gave_inner a (contribution total r p)) (λ p. gave_inner b (contribution total r p)) h (assign_all-frame w b.store targets es bt be h.store)
      (assigned_all-below w targets (evaluated_all es w) bt) (λ p s. gave_inner-alike a b (contribution total r p) s h)
  reduced-alike WithOutermost loop m key total r targets es a b bt be h =
      let w = view_in loop m a key in
      with_ok-alike (λ q. SlotsBelow k q.0) a b _ _ (λ p. gave_outermost a (contribution total r p)) (λ p. gave_outermost b (contribution total r p)) h (assign_all-frame w b.store targets es bt be h.store)
      (assigned_all-below w targets (evaluated_all es w) bt) (λ p s. gave_outermost-alike a b (contribution total r p) s h)

  -- the frame of a body
  pub does-alike : (s : Stmt) (m : Mode) (loop : Loop) (a b : Iteration) → NamesBelow k s → Alike k a b → Alike k (does s m loop a) (does s m loop b)
  does-alike Skip m loop a b n h = h
  does-alike (Then s u) m loop a b n h = go_on-alike _ _ (does u m loop) (does u m loop) (does-alike s m loop a b n.0 h) (λ c d g. does-alike u m loop c d n.1 g)
  does-alike (Declare key x None) m loop a b n h = wrote-alike a b (Scalar x, zero_of (loop.vtype x)) h
  does-alike (Declare key x (Some e)) m loop a b n h =
      with_value-alike a b _ _ (λ v. wrote a (Scalar x, v)) (λ v. wrote b (Scalar x, v)) h (value-frame e (view_in loop m a key) b.store n.1 h.store) (λ v. wrote-alike a b (Scalar x, v) h)
  does-alike (DeclareEdge x y at) m loop a b n h = h
  does-alike (Assign key t e) m loop a b n h =
      with_value-alike a b _ _ (wrote a) (wrote b) h (assign-frame (view_in loop m a key) b.store t e n.0 n.1 h.store) (λ p. wrote-alike a b p h)
  does-alike (Defer key t e) m loop a b n h =
      outer_only-alike m _ _ a b h (λ c d g.
      with_value-alike c d _ _ (deferred_to c) (deferred_to d) g (assign-frame (view_in loop m c key) d.store t e n.0 n.1 g.store) (λ p. deferred-alike c d p g))
  does-alike (Combine key total r ts es) m loop a b n h = reduced-alike (ends_of_all m loop ts) loop m key total r ts es a b n.0 n.1 h
  does-alike (Group key at g p e) m loop a b n h = h
  does-alike (Foreach key at head test body) m loop a b n h =
      outer_only-alike m _ _ a b h (λ c d g.
      let turn : Store → Step → Iteration = λ s step. turn_at loop (AtEdge step.edge) key test (does body (AtEdge step.edge) loop) head.iterator step.node s in
      subst (λ steps. Alike k (inner_done c (map (turn c.store) (steps_in (view_in loop m c key) head))) (inner_done d (map (turn d.store) steps))) (sym (steps_in-frame k (view_in loop m c key) d.store head n.1 g.store))
      (inner_done-alike c d _ _ g (each-mapped (turn c.store) (turn d.store) (steps_in (view_in loop m c key) head)
      (λ step. turn-alike loop (AtEdge step.edge) key test (does body (AtEdge step.edge) loop) head.iterator step.node c.store d.store n.2 g.store (λ x y i. does-alike body (AtEdge step.edge) loop x y n.3 i)))))
  does-alike (For key at head test body) m loop a b n h = h
  does-alike (If key c s u) m loop a b n h =
      with_value-alike a b _ _ _ _ h (value-frame c (view_in loop m a key) b.store n.0 h.store)
      (λ v. one_way-alike (is_true v) (does s m loop) (does u m loop) (does s m loop) (does u m loop) a b (does-alike s m loop a b n.1 h) (does-alike u m loop a b n.2 h))
  does-alike (While key at c body) m loop a b n h = h
  does-alike (Do key at body c) m loop a b n h = h
  does-alike (InBfs key at search c body) m loop a b n h = h
  does-alike (InBfsBoth key at search c body back_key d back) m loop a b n h = h
  does-alike (Return key at e) m loop a b n h = h
