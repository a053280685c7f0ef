-- Bodies of parallel loops keep the types of stores, and give and defer values of their types.
use Rattle.std.proofs.Common.{◌≡◌, ◌<◌, ℕ, Bool, true, false, List, [], ◌∷◌, ◌++◌, map, refl, sym, ap, subst, ◌∙◌, Option, Some, None, Result, Ok, Err, IfOk}
use Rattle.std.specs.Prelude.{◌&&◌, IfSome}
use Rattle.std.proofs.lemmas.Bool.{both_ways}
use Rattle.gm_base.specs.declared.places.Place.{Place}
use Rattle.gm_value.specs.declared.values.VType.{VType}
use Rattle.gm_value.specs.declared.values.VType.TheVariants as V
use Rattle.gm_value.specs.declared.values.Value.{Value}
use Rattle.gm_value.specs.declared.values.Value.TheVariants.{At}
use Rattle.gm_value.specs.declared.reductions.Reduce.{Reduce}
use Rattle.gm_value.specs.declared.reductions.Reduce.TheVariants.{Sum, Product, Min, Max, And, Or}
use Rattle.gm_value.specs.Numbers.{zero_of}
use Rattle.gm_value.specs.Operations.{is_true}
use Rattle.gm_value.specs.Reductions.{close, reduces}
use Rattle.gm_value.specs.Tuples.{close_slots}
use Rattle.gm_model.specs.Graphs.{Step, node_count}
use Rattle.gm_ast.specs.declared.tree.Declaration.{Declaration}
use Rattle.gm_ast.specs.declared.tree.Key.{Key}
use Rattle.gm_ast.specs.declared.tree.Target.{Target}
use Rattle.gm_ast.specs.declared.tree.Target.TheVariants as T
use Rattle.gm_ast.specs.declared.tree.TotalKey.{TotalKey}
use Rattle.gm_ast.specs.Program.{Expr, Stmt, Skip, Then, Declare, DeclareEdge, Assign, Defer, Combine, Group, Foreach, For, If, While, Do, InBfs, InBfsBoth, Return}
use Rattle.gm_semantics.specs.declared.faults.Fault.{Fault}
use Rattle.gm_semantics.specs.declared.slots.Slot.{Slot}
use Rattle.gm_semantics.specs.declared.slots.Slot.TheVariants.{Scalar, Node}
use Rattle.gm_semantics.specs.Stores.{Store, write}
use Rattle.gm_semantics.specs.Faults.{then_with, joined}
use Rattle.gm_semantics.specs.Expressions.{View, Evaluated, AllEvaluated, evaluated, evaluated_all, value, at_node, node_of, steps_in, located, two_of}
use Rattle.gm_semantics.specs.Iterations.{Ends, AtOnce, WithInner, WithOutermost, Loop, Iteration, begun, unless_failed, with_ok, one_way, as_it_is, Mode, Outermost, AtEdge, view_in, slot_of, slots_of, assigned, assigned_all, target_value, combined_by, tuple_held, closed_by, together, alone, at_once, ends_of_all, wrote, wrote_all, contribution, gave_inner, gave_outermost, deferred_to, reduced, outer_only, inner_done, turn_at, does}
use Rattle.gm_forms.specs.Typing.{type_at, type_in, has_type, target_type, all_have_types, fits_targets, is_typed_in}
use Rattle.gm_forms.specs.Uses.{Written, Owner, NodeValue, use_as, uses_of_head, uses_in, uses_in_all, uses_of_target, uses_of_targets, uses_of}
use Rattle.gm_forms.proofs.Named.{both-true}
use Rattle.gm_typed_stores.specs.Values.{IsValue, AreValues, Each}
use Rattle.gm_typed_stores.specs.Tells.{TypeTable, takes_nodes, tells, all_tell, tells_in}
use Rattle.gm_typed_stores.specs.Stores.{IsTypedStore, IsTypedView, slot_type, IsDeclared, Reduces, IsTypedContribution, IsTypedWrite, IsTypedIteration, IsTypedLoop}
use Rattle.gm_typed_stores.proofs.Eaches.{each-map, each-weaker, each-append, each-joined, if-then, if-unless, if-weaker}
use Rattle.gm_typed_stores.proofs.Values.{zero-value, value-number, close-value, close_slots-values}
use Rattle.gm_typed_stores.proofs.Kept.{steps-within, node_of-within, enter, holds-scalar, write-value, write_all-values}
use Rattle.gm_typed_stores.proofs.Expressions.{is-type, Suit, split, Gives, suit-role, both-or-either, two-gives, located-gives, read-gives, at_node-gives, evaluated-gives, value-gives, all-give}
use Rattle.gm_typed_stores.proofs.Settling.{settled-values}

module _ (table : TypeTable) where
  abbrev limit : ℕ
  limit = table.limit

  abbrev ds : List Declaration
  ds = table.declarations

  -- ---- targets

  -- a slot of a target
  abbrev IsSlotOf : Target → Slot → Type 0
  IsSlotOf t slot = IsDeclared table slot × (slot_type table slot ≡ target_type ds t)

  -- slots of targets
  abbrev AreSlotsOf : List Target → List Slot → Type 0
  AreSlotsOf ts slots = Each (IsDeclared table) slots × (map (slot_type table) slots ≡ map (target_type ds) ts)

  -- a slot and a value for it
  abbrev pub IsGivenTo : Slot × Value → Type 0
  IsGivenTo p = IsValue limit (slot_type table p.0) p.1

  abbrev AreGiven : List Slot × List Value → Type 0
  AreGiven p = AreValues limit (map (slot_type table) p.0) p.1

  -- the same of slots of targets
  abbrev AreGivenTo : List Target → List Slot × List Value → Type 0
  AreGivenTo ts p = AreSlotsOf ts p.0 × AreGiven p

  slot_of-typed : (w : View) (t : Target) → Suit ds (uses_of_target t) → IfOk (slot_of w t) (IsSlotOf t)
  slot_of-typed w (T.Scalar x at) s = (suit-role table (record { variable = x; role = Written }) s, refl)
  slot_of-typed w (T.Property x p at) s =
      let r = split ds (use_as Owner x) (use_as NodeValue p) s in
      if-then (λ n. n < node_count w.graph) (IsSlotOf (T.Property x p at)) (node_of w x at) (λ n. Ok (Node p n)) (node_of-within w x at)
      (λ n low. (suit-role table (record { variable = p; role = NodeValue }) r.1, refl))

  slots_of-typed : (w : View) (ts : List Target) → Suit ds (uses_of_targets ts) → IfOk (slots_of w ts) (AreSlotsOf ts)
  slots_of-typed w [] s = (tt, refl)
  slots_of-typed w (t ∷ ts) s =
      let r = split ds (uses_of_target t) (uses_of_targets ts) s in
      if-then (IsSlotOf t) (AreSlotsOf (t ∷ ts)) (slot_of w t) (λ x. then_with (slots_of w ts) (λ xs. Ok (x ∷ xs))) (slot_of-typed w t r.0)
      (λ x g. if-then (AreSlotsOf ts) (AreSlotsOf (t ∷ ts)) (slots_of w ts) (λ xs. Ok (x ∷ xs)) (slots_of-typed w ts r.1)
      (λ xs k. ((g.0, k.0), ap (λ u. u ∷ map (slot_type table) xs) g.1 ∙ ap (λ us. target_type ds t ∷ us) k.1)))

  pub assigned-typed : (w : View) (t : Target) (v : Evaluated) → Suit ds (uses_of_target t) → Gives table (target_type ds t) v → IfOk (assigned w t v) IsGivenTo
  assigned-typed w t v s h =
      if-unless IsGivenTo v.hoisted (then_with (slot_of w t) (λ x. then_with v.rest (λ y. Ok (x, y))))
      (if-then (IsSlotOf t) IsGivenTo (slot_of w t) (λ x. then_with v.rest (λ y. Ok (x, y))) (slot_of-typed w t s)
      (λ x g. if-then (IsValue limit (target_type ds t)) IsGivenTo v.rest (λ y. Ok (x, y)) h (λ y k. subst (λ (u : VType). IsValue limit u y) (sym g.1) k)))

  assigned_all-typed : (w : View) (ts : List Target) (v : AllEvaluated) → Suit ds (uses_of_targets ts) → IfOk v.rest (AreValues limit (map (target_type ds) ts)) → IfOk (assigned_all w ts v) (AreGivenTo ts)
  assigned_all-typed w ts v s h =
      if-unless (AreGivenTo ts) v.hoisted (then_with (slots_of w ts) (λ xs. then_with v.rest (λ ys. Ok (xs, ys))))
      (if-then (AreSlotsOf ts) (AreGivenTo ts) (slots_of w ts) (λ xs. then_with v.rest (λ ys. Ok (xs, ys))) (slots_of-typed w ts s)
      (λ xs g. if-then (AreValues limit (map (target_type ds) ts)) (AreGivenTo ts) v.rest (λ ys. Ok (xs, ys)) h (λ ys k. (g, subst (λ (us : List VType). AreValues limit us ys) (sym g.1) k))))

  -- ---- reductions done at once

  -- what a target holds
  held-gives : (its : List ℕ) (w : View) (t : Target) → IsTypedView table its w → Suit ds (uses_of_target t) → Gives table (target_type ds t) (evaluated (target_value t) w)
  held-gives its w (T.Scalar x at) h s = h.store.scalar x (holds-scalar table its x (suit-role table (record { variable = x; role = Written }) s))
  held-gives its w (T.Property x p at) h s =
      let r = split ds (use_as Owner x) (use_as NodeValue p) s in
      read-gives table (type_at ds p) w (at_node w x at (w.store.node p))
      (at_node-gives table (type_at ds p) w x at (w.store.node p) (λ n low. h.store.node p n (suit-role table (record { variable = p; role = NodeValue }) r.1)))

  held-all : (its : List ℕ) (w : View) (ts : List Target) → IsTypedView table its w → Suit ds (uses_of_targets ts) → IfOk (evaluated_all (map target_value ts) w).rest (AreValues limit (map (target_type ds) ts))
  held-all its w [] h s = tt
  held-all its w (t ∷ ts) h s =
      let r = split ds (uses_of_target t) (uses_of_targets ts) s in
      let P = AreValues limit (map (target_type ds) (t ∷ ts)) in
      if-then (IsValue limit (target_type ds t)) P (evaluated (target_value t) w).rest (λ x. then_with (evaluated_all (map target_value ts) w).rest (λ xs. Ok (x ∷ xs))) (held-gives its w t h r.0)
      (λ x g. if-then (AreValues limit (map (target_type ds) ts)) P (evaluated_all (map target_value ts) w).rest (λ xs. Ok (x ∷ xs)) (held-all its w ts h r.1) (λ xs k. (g, k)))

  closed-gives : (r : Reduce) (w : View) (at : Place) (t : VType) (a b : Evaluated) → reduces r t ≡ true → Gives table t a → Gives table t b → Gives table t (two_of a b (λ x y. located w at (close r x (y ∷ []))))
  closed-gives r w at t a b e h k =
      two-gives table t t t a b (λ x y. located w at (close r x (y ∷ []))) h k
      (λ x y g i. located-gives table t w at (close r x (y ∷ [])) (close-value limit r t x (y ∷ []) e g.of_type.0 (value-number limit t x g) (value-number limit t y i, tt)))

  combined-gives : (r : Reduce) (w : View) (at : Place) (t : VType) (a b : Evaluated) → reduces r t ≡ true → Gives table t a → Gives table t b → Gives table t (combined_by r w at a b)
  combined-gives And w at t a b e h k = (both-or-either table t a b h k).0
  combined-gives Or w at t a b e h k = (both-or-either table t a b h k).1
  combined-gives Sum w at t a b e h k = closed-gives Sum w at t a b e h k
  combined-gives Product w at t a b e h k = closed-gives Product w at t a b e h k
  combined-gives Min w at t a b e h k = closed-gives Min w at t a b e h k
  combined-gives Max w at t a b e h k = closed-gives Max w at t a b e h k

  tuple-gives : (ts : List VType) (w : View) (at : Place) (o : Option (List Value)) → IfSome o (AreValues limit ts) → IfOk (tuple_held w at o) (AreValues limit ts)
  tuple-gives ts w at (Some vs) h = h
  tuple-gives ts w at None h = tt

  alone-typed : (answer : Result (Slot × Value) Fault) → IfOk answer IsGivenTo → IfOk (alone answer) AreGiven
  alone-typed (Ok p) h = (h, tt)
  alone-typed (Err f) h = tt

  pub targets-reduce : (r : Reduce) (ts : List Target) → fits_targets ds r ts ≡ true → Reduces r (map (target_type ds) ts)
  targets-reduce r [] h = tt
  targets-reduce r (t ∷ []) h = h
  targets-reduce r (t ∷ (u ∷ ts)) h = tt

  together-typed : (its : List ℕ) (w : View) (at : Place) (r : Reduce) (ts : List Target) (es : List Expr) → IsTypedView table its w → Suit ds (uses_of_targets ts) → fits_targets ds r ts ≡ true →
      IfOk (evaluated_all es w).rest (AreValues limit (map (target_type ds) ts)) → IfOk (together w at r ts es) AreGiven
  together-typed its w at r ts es h s fits k =
      let us = map (target_type ds) ts in
      let a = evaluated_all (map target_value ts) w in
      let b = evaluated_all es w in
      if-weaker (AreGivenTo ts) AreGiven (together w at r ts es) (λ p g. g.1)
      (assigned_all-typed w ts (closed_by r w at a b) s
      (if-then (AreValues limit us) (AreValues limit us) a.rest (λ held. then_with b.rest (λ vs. tuple_held w at (close_slots r held (vs ∷ [])))) (held-all its w ts h s)
      (λ held g. if-then (AreValues limit us) (AreValues limit us) b.rest (λ vs. tuple_held w at (close_slots r held (vs ∷ []))) k
      (λ vs i. tuple-gives us w at (close_slots r held (vs ∷ [])) (close_slots-values limit r us held (vs ∷ []) (targets-reduce r ts fits) g (i, tt))))))

  pub at_once-typed : (its : List ℕ) (w : View) (at : Place) (r : Reduce) (ts : List Target) (es : List Expr) → IsTypedView table its w → all_have_types ds ts es && fits_targets ds r ts ≡ true →
      Suit ds (uses_of_targets ts ++ uses_in_all es) → all_tell table its es ≡ true → IfOk (at_once w at r ts es) AreGiven
  at_once-typed its w at r [] es h e s k = absurd (both_ways false refl (both-true (all_have_types ds [] es) false e).1)
  at_once-typed its w at r (t ∷ []) [] h e s k = absurd (both_ways false refl e)
  at_once-typed its w at r (t ∷ []) (a ∷ []) h e s k =
      let u = target_type ds t in
      let q = both-true (all_have_types ds (t ∷ []) (a ∷ [])) (reduces r u) e in
      let i = both-true (has_type ds u a) true q.0 in
      let r' = split ds (uses_of_targets (t ∷ [])) (uses_in_all (a ∷ [])) s in
      let j = split ds (uses_of_target t) [] r'.0 in
      let l = split ds (uses_in a) [] r'.1 in
      let m = both-true (tells table its a) true k in
      alone-typed (assigned w t (combined_by r w at (evaluated (target_value t) w) (evaluated a w)))
      (assigned-typed w t (combined_by r w at (evaluated (target_value t) w) (evaluated a w)) j.0
      (combined-gives r w at u (evaluated (target_value t) w) (evaluated a w) q.1 (held-gives its w t h j.0) (evaluated-gives table a its w u h (is-type u (type_in ds a) i.0) l.0 m.0)))
  at_once-typed its w at r (t ∷ []) (a ∷ (b ∷ es)) h e s k =
      absurd (both_ways false refl (both-true (has_type ds (target_type ds t) a) false (both-true (all_have_types ds (t ∷ []) (a ∷ (b ∷ es))) (reduces r (target_type ds t)) e).0).1)
  at_once-typed its w at r (t ∷ (u ∷ ts)) es h e s k =
      let q = both-true (all_have_types ds (t ∷ (u ∷ ts)) es) (fits_targets ds r (t ∷ (u ∷ ts))) e in
      let r' = split ds (uses_of_targets (t ∷ (u ∷ ts))) (uses_in_all es) s in
      together-typed its w at r (t ∷ (u ∷ ts)) es h r'.0 q.1 (all-give table (t ∷ (u ∷ ts)) es its w h q.0 r'.1 k)

  -- ---- iterations

  abbrev Kept : List ℕ → Iteration → Type 0
  Kept its it = IsTypedIteration table its it

  with_ok-keeps : {A : Type 0} (P : A → Type 0) (its : List ℕ) (it : Iteration) (r : Result A Fault) (next : A → Iteration) → Kept its it → IfOk r P → ((a : A) → P a → Kept its (next a)) → Kept its (with_ok it r next)
  with_ok-keeps P its it (Ok a) next h g k = k a g
  with_ok-keeps P its it (Err f) next h g k = record { store = h.store; with_inner = h.with_inner; with_outermost = h.with_outermost; deferred = h.deferred }

  unless-keeps : (its : List ℕ) (o : Option Fault) (it : Iteration) (next : Iteration → Iteration) → Kept its it → Kept its (next it) → Kept its (unless_failed o it next)
  unless-keeps its (Some f) it next h k = h
  unless-keeps its None it next h k = k

  one_way-keeps : (its : List ℕ) (b : Bool) (f g : Iteration → Iteration) (it : Iteration) → Kept its (f it) → Kept its (g it) → Kept its (one_way b f g it)
  one_way-keeps its true f g it h k = h
  one_way-keeps its false f g it h k = k

  outer-keeps : (its : List ℕ) (m : Mode) (f : Iteration → Iteration) (it : Iteration) → Kept its it → Kept its (f it) → Kept its (outer_only m f it)
  outer-keeps its Outermost f it h k = k
  outer-keeps its (AtEdge e) f it h k = h

  wrote-keeps : (its : List ℕ) (it : Iteration) (p : Slot × Value) → Kept its it → IsGivenTo p → Kept its (wrote it p)
  wrote-keeps its it p h g = record { store = write-value table its it.store p.0 p.1 g h.store; with_inner = h.with_inner; with_outermost = h.with_outermost; deferred = h.deferred }

  wrote_all-keeps : (its : List ℕ) (it : Iteration) (p : List Slot × List Value) → Kept its it → AreGiven p → Kept its (wrote_all it p)
  wrote_all-keeps its it p h g = record { store = write_all-values table its it.store p.0 p.1 g h.store; with_inner = h.with_inner; with_outermost = h.with_outermost; deferred = h.deferred }

  deferred-keeps : (its : List ℕ) (it : Iteration) (p : Slot × Value) → Kept its it → IsGivenTo p → Kept its (deferred_to it p)
  deferred-keeps its it p h g = record {
    store = h.store;
    with_inner = h.with_inner;
    with_outermost = h.with_outermost;
    deferred = each-append (IsTypedWrite table) it.deferred (record { slot = p.0; value = p.1 } ∷ []) h.deferred (g, tt);
  }

  given-contribution : (total : TotalKey) (r : Reduce) (ts : List Target) (p : List Slot × List Value) → fits_targets ds r ts ≡ true → AreGivenTo ts p → IsTypedContribution table (contribution total r p)
  given-contribution total r ts p fits g = record {
    declared = g.0.0;
    values = g.1;
    reduces = subst (λ (us : List VType). Reduces r us) (sym g.0.1) (targets-reduce r ts fits);
  }

  reduced-keeps : (its : List ℕ) (ends : Ends) (w : View) (it : Iteration) (total : TotalKey) (r : Reduce) (ts : List Target) (es : List Expr) → IsTypedView table its w → Kept its it →
      all_have_types ds ts es && fits_targets ds r ts ≡ true → Suit ds (uses_of_targets ts ++ uses_in_all es) → all_tell table its es ≡ true → Kept its (reduced ends w it total r ts es)
  reduced-keeps its AtOnce w it total r ts es v h e s k =
      with_ok-keeps AreGiven its it (at_once w total.place r ts es) (wrote_all it) h (at_once-typed its w total.place r ts es v e s k) (λ p g. wrote_all-keeps its it p h g)
  reduced-keeps its WithInner w it total r ts es v h e s k =
      let q = both-true (all_have_types ds ts es) (fits_targets ds r ts) e in
      let r' = split ds (uses_of_targets ts) (uses_in_all es) s in
      with_ok-keeps (AreGivenTo ts) its it (assigned_all w ts (evaluated_all es w)) (λ p. gave_inner it (contribution total r p)) h
      (assigned_all-typed w ts (evaluated_all es w) r'.0 (all-give table ts es its w v q.0 r'.1 k))
      (λ p g. record {
        store = h.store;
        with_inner = each-append (IsTypedContribution table) it.with_inner (contribution total r p ∷ []) h.with_inner (given-contribution total r ts p q.1 g, tt);
        with_outermost = h.with_outermost;
        deferred = h.deferred;
      })
  reduced-keeps its WithOutermost w it total r ts es v h e s k =
      let q = both-true (all_have_types ds ts es) (fits_targets ds r ts) e in
      let r' = split ds (uses_of_targets ts) (uses_in_all es) s in
      with_ok-keeps (AreGivenTo ts) its it (assigned_all w ts (evaluated_all es w)) (λ p. gave_outermost it (contribution total r p)) h
      (assigned_all-typed w ts (evaluated_all es w) r'.0 (all-give table ts es its w v q.0 r'.1 k))
      (λ p g. record {
        store = h.store;
        with_inner = h.with_inner;
        with_outermost = each-append (IsTypedContribution table) it.with_outermost (contribution total r p ∷ []) h.with_outermost (given-contribution total r ts p q.1 g, tt);
        deferred = h.deferred;
      })

  -- the end of an inner loop over some iterations
  inner_done-keeps : (its : List ℕ) (i : ℕ) (it : Iteration) (turns : List Iteration) → Kept its it → Each (Kept (i ∷ its)) turns → Kept its (inner_done it turns)
  inner_done-keeps its i it turns h each =
      let ended = joined (map (λ (t : Iteration). t.with_inner) turns) in
      let late = joined (map (λ (t : Iteration). t.with_outermost) turns) in
      let P = Each (IsTypedContribution table) in
      let inner : P ended = each-joined (IsTypedContribution table) (map (λ (t : Iteration). t.with_inner) turns)
      (each-map P (λ (t : Iteration). t.with_inner) turns (each-weaker (Kept (i ∷ its)) (λ (t : Iteration). P t.with_inner) turns (λ t g. g.with_inner) each)) in
      let outer : P late = each-joined (IsTypedContribution table) (map (λ (t : Iteration). t.with_outermost) turns)
      (each-map P (λ (t : Iteration). t.with_outermost) turns (each-weaker (Kept (i ∷ its)) (λ (t : Iteration). P t.with_outermost) turns (λ t g. g.with_outermost) each)) in
      record {
        store = settled-values table its it.store ended inner h.store;
        with_inner = h.with_inner;
        with_outermost = each-append (IsTypedContribution table) it.with_outermost late h.with_outermost outer;
        deferred = h.deferred;
      }

  view-typed : (its : List ℕ) (loop : Loop) (m : Mode) (it : Iteration) (key : Key) → IsTypedLoop table loop → IsTypedStore table its it.store → IsTypedView table its (view_in loop m it key)
  view-typed its loop m it key l h = record { graph = l.graph; store = h }

  -- an iteration at a node of the graph
  pub turn-keeps : (its : List ℕ) (i : ℕ) (loop : Loop) (m : Mode) (key : Key) (test : Expr) (body : Iteration → Iteration) (n : ℕ) (s : Store) → IsTypedLoop table loop → takes_nodes table i ≡ true → n < node_count loop.graph →
      has_type ds V.Flag test ≡ true → Suit ds (uses_in test) → tells table (i ∷ its) test ≡ true → ((it : Iteration) → IsTypedIteration table (i ∷ its) it → IsTypedIteration table (i ∷ its) (body it)) →
      IsTypedStore table its s → IsTypedIteration table (i ∷ its) (turn_at loop m key test body i n s)
  turn-keeps its i loop m key test body n s l takes low e u k does h =
      let start = begun (write s (Scalar i) (At (Some n))) in
      let entered = enter table its i n loop.graph s l.graph takes low h in
      let begins : IsTypedIteration table (i ∷ its) start = record { store = entered; with_inner = tt; with_outermost = tt; deferred = tt } in
      with_ok-keeps (IsValue limit V.Flag) (i ∷ its) start (value test (view_in loop m start key)) (λ v. one_way (is_true v) body as_it_is start) begins
      (value-gives table test (i ∷ its) (view_in loop m start key) V.Flag (view-typed (i ∷ its) loop m start key l entered) (is-type V.Flag (type_in ds test) e) u k)
      (λ v g. one_way-keeps (i ∷ its) (is_true v) body as_it_is start (does start begins) begins)

  pub does-keeps : (s : Stmt) (its : List ℕ) (result : Option VType) (m : Mode) (loop : Loop) (it : Iteration) → IsTypedLoop table loop → is_typed_in ds result s ≡ true → Suit ds (uses_of s) → tells_in table its s ≡ true →
      IsTypedIteration table its it → IsTypedIteration table its (does s m loop it)
  does-keeps Skip its result m loop it l e u k h = h
  does-keeps (Then a b) its result m loop it l e u k h =
      let q = both-true (is_typed_in ds result a) (is_typed_in ds result b) e in
      let r = split ds (uses_of a) (uses_of b) u in
      let j = both-true (tells_in table its a) (tells_in table its b) k in
      let after = does-keeps a its result m loop it l q.0 r.0 j.0 h in
      unless-keeps its (does a m loop it).fault (does a m loop it) (does b m loop) after (does-keeps b its result m loop (does a m loop it) l q.1 r.1 j.1 after)
  does-keeps (Declare key x None) its result m loop it l e u k h =
      wrote-keeps its it (Scalar x, zero_of (loop.vtype x)) h (subst (λ (t : VType). IsValue limit t (zero_of (loop.vtype x))) (l.types x) (zero-value limit (loop.vtype x)))
  does-keeps (Declare key x (Some a)) its result m loop it l e u k h =
      let w = view_in loop m it key in
      let r = split ds (use_as Written x) (uses_in a) u in
      with_ok-keeps (IsValue limit (type_at ds x)) its it (value a w) (λ v. wrote it (Scalar x, v)) h
      (value-gives table a its w (type_at ds x) (view-typed its loop m it key l h.store) (is-type (type_at ds x) (type_in ds a) e) r.1 k) (λ v g. wrote-keeps its it (Scalar x, v) h g)
  does-keeps (DeclareEdge x y at) its result m loop it l e u k h = h
  does-keeps (Assign key t a) its result m loop it l e u k h =
      let w = view_in loop m it key in
      let r = split ds (uses_of_target t) (uses_in a) u in
      with_ok-keeps IsGivenTo its it (assigned w t (evaluated a w)) (wrote it) h
      (assigned-typed w t (evaluated a w) r.0 (evaluated-gives table a its w (target_type ds t) (view-typed its loop m it key l h.store) (is-type (target_type ds t) (type_in ds a) e) r.1 k)) (λ p g. wrote-keeps its it p h g)
  does-keeps (Defer key t a) its result m loop it l e u k h =
      let w = view_in loop m it key in
      let r = split ds (uses_of_target t) (uses_in a) u in
      outer-keeps its m (λ it. let w = view_in loop m it key in with_ok it (assigned w t (evaluated a w)) (deferred_to it)) it h
      (with_ok-keeps IsGivenTo its it (assigned w t (evaluated a w)) (deferred_to it) h
      (assigned-typed w t (evaluated a w) r.0 (evaluated-gives table a its w (target_type ds t) (view-typed its loop m it key l h.store) (is-type (target_type ds t) (type_in ds a) e) r.1 k)) (λ p g. deferred-keeps its it p h g))
  does-keeps (Combine key total r ts es) its result m loop it l e u k h =
      reduced-keeps its (ends_of_all m loop ts) (view_in loop m it key) it total r ts es (view-typed its loop m it key l h.store) h e u k
  does-keeps (Group key at g p a) its result m loop it l e u k h = h
  does-keeps (Foreach key at head test body) its result m loop it l e u k h =
      let i = head.iterator in
      let q = both-true (has_type ds V.Flag test) (is_typed_in ds result body) e in
      let r = split ds (uses_of_head head) (uses_in test ++ uses_of body) u in
      let r' = split ds (uses_in test) (uses_of body) r.1 in
      let j = both-true (takes_nodes table i) (tells table (i ∷ its) test && tells_in table (i ∷ its) body) k in
      let j' = both-true (tells table (i ∷ its) test) (tells_in table (i ∷ its) body) j.1 in
      let steps = steps_in (view_in loop m it key) head in
      let turn = λ (step : Step). turn_at loop (AtEdge step.edge) key test (does body (AtEdge step.edge) loop) i step.node it.store in
      outer-keeps its m (λ it. inner_done it (map (λ step. turn_at loop (AtEdge step.edge) key test (does body (AtEdge step.edge) loop) i step.node it.store) (steps_in (view_in loop m it key) head))) it h
      (inner_done-keeps its i it (map turn steps) h
      (each-map (IsTypedIteration table (i ∷ its)) turn steps
      (each-weaker (λ (s : Step). s.node < node_count loop.graph) (λ s. IsTypedIteration table (i ∷ its) (turn s)) steps
      (λ step low. turn-keeps its i loop (AtEdge step.edge) key test (does body (AtEdge step.edge) loop) step.node it.store l j.0 low q.0 r'.0 j'.0
      (λ t g. does-keeps body (i ∷ its) result (AtEdge step.edge) loop t l q.1 r'.1 j'.1 g) h.store)
      (steps-within (view_in loop m it key) head l.graph.graph))))
  does-keeps (For key at head test body) its result m loop it l e u k h = h
  does-keeps (If key test a b) its result m loop it l e u k h =
      let w = view_in loop m it key in
      let q = both-true (has_type ds V.Flag test) (is_typed_in ds result a && is_typed_in ds result b) e in
      let q' = both-true (is_typed_in ds result a) (is_typed_in ds result b) q.1 in
      let r = split ds (uses_in test) (uses_of a ++ uses_of b) u in
      let r' = split ds (uses_of a) (uses_of b) r.1 in
      let j = both-true (tells table its test) (tells_in table its a && tells_in table its b) k in
      let j' = both-true (tells_in table its a) (tells_in table its b) j.1 in
      with_ok-keeps (IsValue limit V.Flag) its it (value test w) (λ v. one_way (is_true v) (does a m loop) (does b m loop) it) h
      (value-gives table test its w V.Flag (view-typed its loop m it key l h.store) (is-type V.Flag (type_in ds test) q.0) r.0 j.0)
      (λ v g. one_way-keeps its (is_true v) (does a m loop) (does b m loop) it (does-keeps a its result m loop it l q'.0 r'.0 j'.0 h) (does-keeps b its result m loop it l q'.1 r'.1 j'.1 h))
  does-keeps (While key at test body) its result m loop it l e u k h = h
  does-keeps (Do key at body test) its result m loop it l e u k h = h
  does-keeps (InBfs key at search test body) its result m loop it l e u k h = h
  does-keeps (InBfsBoth key at search test body back_key back_test back) its result m loop it l e u k h = h
  does-keeps (Return key at a) its result m loop it l e u k h = h
