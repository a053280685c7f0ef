-- A reduction to properties of a node that is done at once is one contribution that is taken onto its fields.
use Rattle.std.proofs.Common.{◌≡◌, ◌<◌, ◌≤◌, inl, ℕ, zero, suc, Bool, true, false, cond, Option, Some, None, Result, Ok, Err, List, [], ◌∷◌, length, map, refl, ap, ◌∙◌, sym, subst, arith, ⊎_elim}
use Rattle.std.specs.Prelude.{◌+◌, ◌&&◌, ◌||◌, if◌then◌else◌, nat_eq, not}
use Rattle.std.specs.List.{list_all}
use Rattle.std.proofs.lemmas.Bool.{both_ways, eqb-true, eq-eqb, ne_eqb, cases_lt}
use Rattle.gm_base.specs.declared.places.Place.{Place}
use Rattle.gm_value.specs.declared.faults.FaultKind.TheVariants.{Overflow}
use Rattle.gm_value.specs.declared.values.Value.{Value}
use Rattle.gm_value.specs.declared.reductions.Reduce.{Reduce}
use Rattle.gm_value.specs.declared.reductions.Reduce.TheVariants as R
use Rattle.gm_value.specs.Bag.{IsIn}
use Rattle.gm_value.specs.Numbers.{type_of, number_of, fits, value_at as value_of_type}
use Rattle.gm_value.specs.Reductions.{close, combined, total}
use Rattle.gm_value.specs.Taking.{then_take, at_rank, taken_bag, taken}
use Rattle.gm_value.specs.Tuples.{close_slots, with_value}
use Rattle.gm_ast.specs.declared.tree.Key.{Key}
use Rattle.gm_ast.specs.declared.tree.Target.{Target}
use Rattle.gm_ast.specs.declared.tree.Target.TheVariants as T
use Rattle.gm_ast.specs.declared.tree.TotalKey.{TotalKey}
use Rattle.gm_ast.specs.Program as S
use Rattle.gm_ast.specs.Program.{Expr}
use Rattle.gm_ast.specs.Ways.{is_in}
use Rattle.gm_forms.specs.Sharing.{are_distinct, variables_of}
use Rattle.gm_forms.proofs.Named.{both-true}
use Rattle.gm_semantics.specs.declared.faults.Fault.{Fault}
use Rattle.gm_semantics.specs.declared.slots.Slot.{Slot}
use Rattle.gm_semantics.specs.declared.slots.Slot.TheVariants.{Scalar, Node}
use Rattle.gm_semantics.specs.Contributions.{Contribution, statement_of, to_target, close_by, statement_bound, taken_onto, values_or, fault_in, target_taken, value_among, value_after, total_faults}
use Rattle.gm_semantics.specs.Expressions.{View, Answer, Evaluated, AllEvaluated, evaluated, evaluated_all, plain, early, at_node, node_held, two_of, located, and_all}
use Rattle.gm_semantics.specs.Faults as F
use Rattle.gm_semantics.specs.Faults.{least, first, then_with, unless_fault, somes}
use Rattle.gm_semantics.specs.Iterations.{slot_of, slots_of, assigned, target_value, combined_by, tuple_held, closed_by, alone, together, at_once, Loop, Outermost, Iteration, AtOnce, WithOutermost, own_ends, later, ends_of_all, view_in, with_ok, wrote_all, reduced, does}
use Rattle.gm_semantics.specs.Laws.{Distinct}
use Rattle.gm_semantics.specs.Levels.{node_in}
use Rattle.gm_semantics.specs.Stores.{Store, slot_eq, has_slot, read, reads, write, write_all}
use Rattle.gm_semantics.proofs.ContributionLaws.{slot_eq-true, slot_eq-refl, slots_eq-refl}
use Rattle.gm_semantics.proofs.TargetLaws.{value-away}
use Rattle.gm_ast.specs.Keys.{total_fault}
use Rattle.gm_lowering.specs.Places.{Spot, segment, place_index, spot_of_total}
use Rattle.gm_lowering.specs.Terms.{Env}
use Rattle.gm_lowering.specs.Settles.{HasSpot, is_some_list, AreHeld, AreGiven, SettlesAlike}
use Rattle.gm_machine.specs.Expressions.{value_at}
use Rattle.gm_lowering.specs.Layouts.{Layout}
use Rattle.gm_lowering.specs.OwnLoops.{asks_always, own_finds, folds_to, folds_at_once}
use Rattle.gm_lowering.specs.Sites.{same_length, slot_at, HoldProperties, IsApart}
use Rattle.gm_lowering.proofs.Givens.{node_slots, are_kept, here_at, node-slots, assigned-is, folds-way}
use Rattle.gm_lowering.proofs.Orders.{lt-itself}
use Rattle.gm_lowering.proofs.Settles.{below-bound, reductions-settle}
use Rattle.gm_lowering.specs.Plans.{Folds, way_of}

-- what is combined with a held value, by a reduction that asks for it always
pub combined-is : (r : Reduce) (w : View) (at : Place) (a b : Evaluated) → asks_always r ≡ true → combined_by r w at a b ≡ two_of a b (λ x y. located w at (close r x (y ∷ [])))
combined-is R.Sum w at a b o = refl
combined-is R.Product w at a b o = refl
combined-is R.Min w at a b o = refl
combined-is R.Max w at a b o = refl
combined-is R.And w at a b o = absurd (both_ways false refl o)
combined-is R.Or w at a b o = absurd (both_ways false refl o)

-- the first of no faults
first-none : (a b : Option Fault) → first a b ≡ None → (a ≡ None) × (b ≡ None)
first-none None b e = (refl, e)
first-none (Some f) b e = absurd (both_ways false refl (ap is_none e)) where
  is_none : Option Fault → Bool
  is_none None = true
  is_none (Some f) = false

-- what is written at once to properties of a node, by the values for them
abbrev pub kept_at : View → ℕ → Place → Reduce → List Target → Result (List Value) Fault → Result (List Slot × List Value) Fault
kept_at w j at r ts answer =
    then_with answer (λ ys. then_with (tuple_held w at (close_slots r (reads w.store (node_slots j ts)) (ys ∷ []))) (λ vs. Ok (node_slots j ts, vs)))

module _ (c : Layout) (n j : ℕ) (w : View) (parallel : w.parallel ≡ true) (there : node_in w.graph (w.store.scalar n) ≡ Some j) where
  -- what targets hold at the node
  one-held : (x p : ℕ) (at : Place) → nat_eq x n ≡ true → evaluated (target_value (T.Property x p at)) w ≡ plain (Ok (w.store.node p j))
  one-held x p at e =
      ap (λ b. if b then plain (at_node w x at (w.store.node p)) else early (at_node w x at (w.store.node p))) parallel
      ∙ ap (λ z. plain (then_with (node_held w at (node_in w.graph (w.store.scalar z))) (λ m. Ok (w.store.node p m)))) (eqb-true x n e)
      ∙ ap (λ o. plain (then_with (node_held w at o) (λ m. Ok (w.store.node p m)))) there

  all-held : (ts : List Target) → are_kept c n ts ≡ true → evaluated_all (map target_value ts) w ≡ record { hoisted = None; rest = Ok (reads w.store (node_slots j ts)) }
  all-held [] o = refl
  all-held (T.Scalar x at ∷ ts) o = absurd (both_ways false refl o)
  all-held (T.Property x p at ∷ ts) o =
      let q = both-true (nat_eq x n && c.is_kept p) (are_kept c n ts) o in
      ap (λ a. and_all a (evaluated_all (map target_value ts) w)) (one-held x p at (both-true (nat_eq x n) (c.is_kept p) q.0).0)
      ∙ ap (and_all (plain (Ok (w.store.node p j)))) (all-held ts q.1)

  single : (at : Place) (r : Reduce) (x p : ℕ) (pl : Place) (e : Expr) → asks_always r ≡ true → are_kept c n (T.Property x p pl ∷ []) ≡ true → (evaluated_all (e ∷ []) w).hoisted ≡ None
      → at_once w at r (T.Property x p pl ∷ []) (e ∷ []) ≡ kept_at w j at r (T.Property x p pl ∷ []) (evaluated_all (e ∷ []) w).rest
  single at r x p pl e o k h =
      let t = T.Property x p pl in
      let held = w.store.node p j in
      let b = evaluated e w in
      let is' = both-true (nat_eq x n) (c.is_kept p) (both-true (nat_eq x n && c.is_kept p) true k).0 in
      ap (λ a. alone (assigned w t a)) (combined-is r w at (evaluated (target_value t) w) b o)
      ∙ ap (λ a. alone (assigned w t (two_of a b (λ y z. located w at (close r y (z ∷ [])))))) (one-held x p pl is'.0)
      ∙ ap (λ f. alone (unless_fault f (then_with (slot_of w t) (λ s. then_with (then_with b.rest (λ z. located w at (close r held (z ∷ [])))) (λ y. Ok (s, y)))))) (first-none b.hoisted None h).0
      ∙ ap (λ q. alone (then_with q (λ s. then_with (then_with b.rest (λ z. located w at (close r held (z ∷ [])))) (λ y. Ok (s, y)))))
      (ap (λ z. then_with (node_held w pl (node_in w.graph (w.store.scalar z))) (λ m. Ok (Node p m))) (eqb-true x n is'.0) ∙ ap (λ q. then_with (node_held w pl q) (λ m. Ok (Node p m))) there)
      ∙ by b.rest where
        fitted : (z : Value) (b : Bool) (y : Value)
            → alone (then_with (located w at (if b then Ok y else Err Overflow)) (λ y. Ok (Node p j, y)))
            ≡ then_with (tuple_held w at (with_value (if b then Ok y else Err Overflow) (Some []))) (λ vs. Ok (Node p j ∷ [], vs))
        fitted z true y = refl
        fitted z false y = refl

        by : (a : Answer)
            → alone (then_with (then_with a (λ z. located w at (close r (w.store.node p j) (z ∷ [])))) (λ y. Ok (Node p j, y)))
            ≡ kept_at w j at r (T.Property x p pl ∷ []) (then_with a (λ x. then_with (Ok []) (λ xs. Ok (x ∷ xs))))
        by (Err f) = refl
        by (Ok z) =
            let held = w.store.node p j in
            let ty = type_of held in
            let sum = combined r (number_of held) (total r ty (z ∷ [])) in
            fitted z (fits ty sum) (value_of_type ty sum)

  several : (at : Place) (r : Reduce) (ts : List Target) (es : List Expr) → are_kept c n ts ≡ true → (evaluated_all es w).hoisted ≡ None
      → together w at r ts es ≡ kept_at w j at r ts (evaluated_all es w).rest
  several at r ts es k h =
      let b = evaluated_all es w in
      ap (λ a. assigned_by (closed_by r w at a b)) (all-held ts k)
      ∙ assigned-is w ts (closed_by r w at (record { hoisted = None; rest = Ok (reads w.store (node_slots j ts)) }) b) (node_slots j ts) h (node-slots c n j w ts k there)
      ∙ by b.rest where
        assigned_by : AllEvaluated → Result (List Slot × List Value) Fault
        assigned_by a = unless_fault a.hoisted (then_with (slots_of w ts) (λ ss. then_with a.rest (λ xs. Ok (ss, xs))))

        by : (a : Result (List Value) Fault) → then_with (then_with a (λ vs. tuple_held w at (close_slots r (reads w.store (node_slots j ts)) (vs ∷ [])))) (λ xs. Ok (node_slots j ts, xs)) ≡ kept_at w j at r ts a
        by (Ok vs) = refl
        by (Err f) = refl

  -- a reduction to properties of the node that is done at once
  at-once-is : (at : Place) (r : Reduce) (ts : List Target) (es : List Expr) → asks_always r ≡ true → are_kept c n ts ≡ true → same_length ts es ≡ true → (evaluated_all es w).hoisted ≡ None
      → at_once w at r ts es ≡ kept_at w j at r ts (evaluated_all es w).rest
  at-once-is at r [] es o k l h = several at r [] es k h
  at-once-is at r (t ∷ []) [] o k l h = absurd (both_ways false refl l)
  at-once-is at r (T.Scalar x pl ∷ []) (e ∷ []) o k l h = absurd (both_ways false refl k)
  at-once-is at r (T.Property x p pl ∷ []) (e ∷ []) o k l h = single at r x p pl e o k h
  at-once-is at r (t ∷ []) (e ∷ (d ∷ es)) o k l h = absurd (both_ways false refl l)
  at-once-is at r (t ∷ (u ∷ ts)) es o k l h = several at r (t ∷ (u ∷ ts)) es k h

-- properties of the node of an own loop are written at once
own-now : (c : Layout) (loop : Loop) (ts : List Target) → are_kept c loop.outer ts ≡ true → ends_of_all Outermost loop ts ≡ AtOnce
own-now c loop [] h = refl
own-now c loop (T.Scalar x at ∷ ts) h = absurd (both_ways false refl h)
own-now c loop (T.Property x p at ∷ ts) h =
    let q = both-true (nat_eq x loop.outer && c.is_kept p) (are_kept c loop.outer ts) h in
    ap (λ b. later (if b then own_ends Outermost (loop.pushed p) else WithOutermost) (ends_of_all Outermost loop ts)) (both-true (nat_eq x loop.outer) (c.is_kept p) q.0).0
    ∙ ap (later AtOnce) (own-now c loop ts q.1)

pub now-is : (c : Layout) (loop : Loop) (j : ℕ) (it : Iteration) (k : Key) (total : TotalKey) (r : Reduce) (ts : List Target) (es : List Expr)
    → asks_always r ≡ true → are_kept c loop.outer ts ≡ true → same_length ts es ≡ true → (evaluated_all es (view_in loop Outermost it k)).hoisted ≡ None → node_in loop.graph (it.store.scalar loop.outer) ≡ Some j
    → does (S.Combine k total r ts es) Outermost loop it ≡ with_ok it (kept_at (view_in loop Outermost it k) j total.place r ts (evaluated_all es (view_in loop Outermost it k)).rest) (wrote_all it)
now-is c loop j it k total r ts es o kept long h at =
    ap (λ e. reduced e (view_in loop Outermost it k) it total r ts es) (own-now c loop ts kept)
    ∙ ap (λ a. with_ok it a (wrote_all it)) (at-once-is c loop.outer j (view_in loop Outermost it k) refl at total.place r ts es o kept long h)

-- a slot that is not among some
among-away : (slot : Slot) (slots : List Slot) (vs : List Value) (other : Value) → has_slot slot slots ≡ false → value_among slot slots vs other ≡ other
among-away slot [] vs other h = refl
among-away slot (x ∷ xs) [] other h = refl
among-away slot (x ∷ xs) (v ∷ vs) other h =
    let t = neither (slot_eq slot x) (has_slot slot xs) h in ap (λ b. if b then v else value_among slot xs vs other) t.0 ∙ among-away slot xs vs other t.1 where
      neither : (a b : Bool) → a || b ≡ false → (a ≡ false) × (b ≡ false)
      neither true b h = absurd (both_ways true h refl)
      neither false b h = (refl, h)

-- a slot after a write
pub read-write : (s : Store) (x : Slot) (v : Value) (slot : Slot) → read (write s x v) slot ≡ (if slot_eq x slot then v else read s slot)
read-write s (Scalar x) v (Scalar y) = refl
read-write s (Scalar x) v (Node p n) = refl
read-write s (Node p n) v (Scalar y) = refl
read-write s (Node p n) v (Node q m) = refl

-- after writes to slots that are apart, each holds its value
pub written : (s : Store) (slots : List Slot) (vs : List Value) → Distinct slots → (slot : Slot) → read (write_all s slots vs) slot ≡ value_among slot slots vs (read s slot)
written s [] vs d slot = refl
written s (x ∷ xs) [] d slot = refl
written s (x ∷ xs) (v ∷ vs) d slot = written (write s x v) xs vs d.1 slot ∙ ap (value_among slot xs vs) (read-write s x v slot) ∙ by (slot_eq slot x) refl where
  by : (b : Bool) → slot_eq slot x ≡ b → value_among slot xs vs (if slot_eq x slot then v else read s slot) ≡ (if b then v else value_among slot xs vs (read s slot))
  by true e =
      let is' : slot ≡ x = slot_eq-true slot x e in
      ap (λ z. value_among slot xs vs (if slot_eq z slot then v else read s slot)) (sym is') ∙ ap (λ b. value_among slot xs vs (if b then v else read s slot)) (slot_eq-refl slot)
      ∙ among-away slot xs vs v (ap (λ z. has_slot z xs) is' ∙ d.0)
  by false e = ap (λ b. value_among slot xs vs (if b then v else read s slot)) (turned (slot_eq x slot) refl) where
    turned : (b : Bool) → slot_eq x slot ≡ b → b ≡ false
    turned true k = sym (ap (slot_eq slot) (slot_eq-true x slot k) ∙ slot_eq-refl slot) ∙ e
    turned false k = refl

-- properties of one node that are distinct are slots apart, and writes to them leave scalars as they were
pub distinct-slots : (c : Layout) (i j : ℕ) (ts : List Target) → are_kept c i ts ≡ true → are_distinct (variables_of ts) ≡ true → Distinct (node_slots j ts)
distinct-slots c i j [] k d = tt
distinct-slots c i j (T.Scalar x at ∷ ts) k d = absurd (both_ways false refl k)
distinct-slots c i j (T.Property x p at ∷ ts) k d =
    let q = both-true (nat_eq x i && c.is_kept p) (are_kept c i ts) k in
    let t = both-true (not (is_in (variables_of ts) p)) (are_distinct (variables_of ts)) d in
    (not-among ts q.1 (not-true (is_in (variables_of ts) p) t.0), distinct-slots c i j ts q.1 t.1) where
      not-true : (b : Bool) → not b ≡ true → b ≡ false
      not-true true e = sym e
      not-true false e = refl

      not-among : (us : List Target) → are_kept c i us ≡ true → is_in (variables_of us) p ≡ false → has_slot (Node p j) (node_slots j us) ≡ false
      not-among [] k e = refl
      not-among (T.Scalar y pl ∷ us) k e = absurd (both_ways false refl k)
      not-among (T.Property y z pl ∷ us) k e =
          let q = both-true (nat_eq y i && c.is_kept z) (are_kept c i us) k in
          let t = neither (nat_eq p z) (is_in (variables_of us) p) e in
          ap (λ b. (b && nat_eq j j) || has_slot (Node p j) (node_slots j us)) t.0 ∙ not-among us q.1 t.1 where
            neither : (a b : Bool) → a || b ≡ false → (a ≡ false) × (b ≡ false)
            neither true b h = absurd (both_ways true h refl)
            neither false b h = (refl, h)

pub scalars-stay : (s : Store) (j : ℕ) (ts : List Target) (vs : List Value) (x : ℕ) → (write_all s (node_slots j ts) vs).scalar x ≡ s.scalar x
scalars-stay s j [] vs x = refl
scalars-stay s j (T.Scalar y at ∷ ts) vs x = scalars-stay s j ts vs x
scalars-stay s j (T.Property y p at ∷ ts) [] x = refl
scalars-stay s j (T.Property y p at ∷ ts) (v ∷ vs) x = scalars-stay (write s (Node p j) v) j ts vs x

-- one contribution is taken at its rank
taken-single : {C V : Type 0} (rank : C → ℕ) (close : V → List C → Option V) (m : ℕ) (held : V) (x : C) → rank x < m → taken rank close m held (x ∷ []) ≡ at_rank (rank x) (close held (x ∷ []))
taken-single rank close zero held x lt = absurd (omega arith)
taken-single {C = C} {V = V} rank close (suc m) held x lt =
    ⊎_elim
    (λ (less : rank x < m).
    ap (λ b. then_take (taken rank close m held (x ∷ [])) (λ v. taken_bag close m v (cond b (x ∷ []) []))) (ne_eqb (rank x) m (λ e. omega arith))
    ∙ ap (λ q. then_take q (λ v. Ok v)) (taken-single rank close m held x less)
    ∙ same (at_rank (rank x) (close held (x ∷ []))))
    (λ (more : m ≤ rank x).
    let is' : rank x ≡ m = omega arith in
    ap (λ b. then_take (taken rank close m held (x ∷ [])) (λ v. taken_bag close m v (cond b (x ∷ []) []))) (eq-eqb (rank x) m is')
    ∙ ap (λ q. then_take q (λ v. at_rank m (close v (x ∷ [])))) (none-below m more)
    ∙ ap (λ k. at_rank k (close held (x ∷ []))) (sym is'))
    (cases_lt (rank x) m) where
      same : (q : Result V ℕ) → then_take q (λ v. Ok v) ≡ q
      same (Ok v) = refl
      same (Err k) = refl

      none-below : (k : ℕ) → k ≤ rank x → taken rank close k held (x ∷ []) ≡ Ok held
      none-below zero le = refl
      none-below (suc k) le =
          ap (λ b. then_take (taken rank close k held (x ∷ [])) (λ v. taken_bag close k v (cond b (x ∷ []) []))) (ne_eqb (rank x) k (λ e. omega arith))
          ∙ ap (λ q. then_take q (λ v. Ok v)) (none-below k (omega arith))

-- what one contribution leaves, and its fault
module _ (s : Store) (x : Contribution) where
  abbrev new : Option (List Value)
  new = close_slots x.reduce (reads s x.slots) (x.values ∷ [])

  alone-to : to_target x.slots (x ∷ []) ≡ x ∷ []
  alone-to = ap (λ b. cond b (x ∷ []) []) (slots_eq-refl x.slots)

  taken-is : target_taken s (x ∷ []) x.slots ≡ at_rank (statement_of x) new
  taken-is =
      ap (taken_onto (reads s x.slots)) alone-to
      ∙ taken-single statement_of (close_by x.reduce) (statement_bound (x ∷ [])) (reads s x.slots) x (below-bound (x ∷ []) x (inl refl))

  pub single-after : (vs : List Value) → new ≡ Some vs → (slot : Slot) → value_after s (x ∷ []) slot ≡ value_among slot x.slots vs (read s slot)
  single-after vs e slot = by (has_slot slot x.slots) refl where
    by : (b : Bool) → has_slot slot x.slots ≡ b → value_after s (x ∷ []) slot ≡ value_among slot x.slots vs (read s slot)
    by true h =
        ap (λ b. let slots = (if b then x.slots else slot ∷ []) in value_among slot slots (values_or (reads s slots) (target_taken s (x ∷ []) slots)) (read s slot)) h
        ∙ ap (λ q. value_among slot x.slots (values_or (reads s x.slots) q) (read s slot)) (taken-is ∙ ap (at_rank (statement_of x)) e)
    by false h = value-away s slot (x ∷ []) (λ d i. ⊎_elim (λ (k : d ≡ x). ap (λ (z : Contribution). has_slot slot z.slots) k ∙ h) (λ (k : ⊥). absurd k) i) ∙ sym (among-away slot x.slots vs (read s slot) h)

  abbrev pub fault_by : Option (List Value) → Option Fault
  fault_by (Some vs) = None
  fault_by None = Some (F.total_fault x.total)

  pub single-fault : least (total_faults s (x ∷ [])) ≡ fault_by new
  single-fault =
      ap (λ cs. least (somes (fault_in cs (target_taken s (x ∷ []) x.slots) ∷ []))) alone-to
      ∙ ap (λ q. least (somes (fault_in (x ∷ []) q ∷ []))) taken-is
      ∙ by new where
        by : (o : Option (List Value)) → least (somes (fault_in (x ∷ []) (at_rank (statement_of x) o) ∷ [])) ≡ fault_by o
        by (Some vs) = refl
        by None = ap (λ b. least (somes (least (map (λ (y : Contribution). F.total_fault y.total) (cond b (x ∷ []) [])) ∷ []))) (eq-eqb (statement_of x) (statement_of x) refl)

-- the properties of a node are held by its fields
pub fields-held : (c : Layout) (registers fields j : ℕ) (s : Store) (held : List Value) → IsApart c registers fields → HoldProperties c held j s → length held ≡ fields → AreHeld c s held (here_at c j)
fields-held c registers fields j s held apart holds count = record { holds = same; within = within; apart = unlike } where
  at-node : (k p : ℕ) → nat_eq k j && c.is_kept p ≡ true → (k ≡ j) × (c.is_kept p ≡ true)
  at-node k p o = let t = both-true (nat_eq k j) (c.is_kept p) o in (eqb-true k j t.0, t.1)

  same : (slot : Slot) → here_at c j slot ≡ true → value_at held (slot_at c slot) ≡ read s slot
  same (Scalar x) o = absurd (both_ways false refl o)
  same (Node p k) o = let t = at-node k p o in holds p t.1 ∙ ap (s.node p) (sym t.0)

  within : (slot : Slot) → here_at c j slot ≡ true → slot_at c slot < length held
  within (Scalar x) o = absurd (both_ways false refl o)
  within (Node p k) o = let t = at-node k p o in subst (λ m. c.field p < m) (sym count) (apart.field_within p t.1)

  unlike : (a b : Slot) → here_at c j a ≡ true → here_at c j b ≡ true → slot_at c a ≡ slot_at c b → a ≡ b
  unlike (Scalar x) b o o2 e = absurd (both_ways false refl o)
  unlike (Node p k) (Scalar x) o o2 e = absurd (both_ways false refl o2)
  unlike (Node p k) (Node q m) o o2 e =
      let t = at-node k p o in
      let u = at-node m q o2 in
      ap (λ z. Node z k) (apart.fields_apart p q t.1 u.1 e) ∙ ap (Node q) (t.0 ∙ sym u.0)

-- one contribution to a node's properties, at a place that is among those that are taken
module _ (c : Layout) (v : Env) (registers fields places j place : ℕ) (s : Store) (held : List Value) (x : Contribution)
    (apart : IsApart c registers fields) (holds : HoldProperties c held j s) (count : length held ≡ fields) (room : place < places)
    (good : list_all (here_at c j) x.slots ≡ true) (some : is_some_list x.slots ≡ true) where
  abbrev spots : List Spot
  spots = spot_of_total x.total ∷ []

  -- an environment in which its place has that index
  abbrev pub there : Env
  there = record v { place = place_index (segment place spots) }

  pub one-settles : SettlesAlike c there places s held (here_at c j) (x ∷ [])
  one-settles = reductions-settle c there place places spots s held (here_at c j) (x ∷ []) refl (λ z o. omega (arith, room)) (fields-held c registers fields j s held apart holds count) given-one where
    is-one : (y : Contribution) → IsIn y (x ∷ []) → y ≡ x
    is-one y i = ⊎_elim (λ (e : y ≡ x). e) (λ (k : ⊥). absurd k) i

    given-one : AreGiven (x ∷ []) (here_at c j) spots
    given-one = record {
      one = λ a b slot i k h h'. (ap (λ (z : Contribution). z.reduce) (is-one a i ∙ sym (is-one b k)), ap (λ (z : Contribution). z.slots) (is-one a i ∙ sym (is-one b k)));
      here_all = λ y i. subst (λ (z : Contribution). list_all (here_at c j) z.slots ≡ true) (sym (is-one y i)) good;
      not_empty = λ y i. subst (λ (z : Contribution). is_some_list z.slots ≡ true) (sym (is-one y i)) some;
      one_total = λ a b i k h h'. ap (λ (z : Contribution). z.total) (is-one a i ∙ sym (is-one b k));
      spotted = λ y i. subst (λ (z : Contribution). HasSpot (spot_of_total z.total) spots) (sym (is-one y i)) (inl refl);
    }

  pub at-place : there.place x.total.key x.total.place ≡ place
  at-place = ap (λ b. place + length (cond b spots [])) (lt-itself (total_fault x.total)) ∙ (let e : place + 0 ≡ place = omega arith in e)

-- what is folded at once folds
pub fold-way : (c : Layout) (n : ℕ) (r : Reduce) (ts : List Target) (es : List Expr) → folds_at_once c n (own_finds c n) r ts es ≡ true → way_of c.declarations n ts ≡ Folds
fold-way c n r [] es o = absurd (both_ways false refl (both-true (are_distinct []) (folds_to c n (own_finds c n) r [] es) (both-true (asks_always r) _ o).1).1)
fold-way c n r (t ∷ ts) es o =
    folds-way c n t ts (both-true (are_kept c n (t ∷ ts)) (same_length (t ∷ ts) es && list_all (own_finds c n) es)
    (both-true (are_distinct (variables_of (t ∷ ts))) (folds_to c n (own_finds c n) r (t ∷ ts) es) (both-true (asks_always r) _ o).1).1).0
