-- Totals of Min, Max, And and Or are never out of range where contributions have types.
use Rattle.std.proofs.Common.{◌≡◌, ◌≢◌, ℕ, zero, suc, ℤ, Bool, true, false, cond, Option, Some, None, Result, Ok, Err, List, [], ◌∷◌, map, refl, ap, ◌∙◌, sym, subst, arith, ⊎_elim, inl, IsTrue}
use Rattle.std.specs.Prelude.{nat_eq, int_lt, IfSome, if◌then◌else◌}
use Rattle.std.proofs.lemmas.Bool.{both_ways}
use Rattle.gm_value.specs.declared.faults.FaultKind.{FaultKind}
use Rattle.gm_value.specs.declared.faults.FaultKind.TheVariants.{Overflow}
use Rattle.gm_value.specs.declared.reductions.Reduce.{Reduce}
use Rattle.gm_value.specs.declared.reductions.Reduce.TheVariants.{Sum, Product, Min, Max, And, Or}
use Rattle.gm_value.specs.declared.values.VType.{VType}
use Rattle.gm_value.specs.declared.values.VType.TheVariants as V
use Rattle.gm_value.specs.declared.values.Value.{Value}
use Rattle.gm_value.specs.Bag.{IsIn}
use Rattle.gm_value.specs.Laws.{AreOf, EachAreOf}
use Rattle.gm_value.specs.Numbers.{number_of, value_at, fits, checked, IsOf}
use Rattle.gm_value.specs.Reductions.{combined, unit_of, total, close}
use Rattle.gm_value.specs.Taking.{of_rank, then_take, at_rank, taken_bag, taken}
use Rattle.gm_value.specs.Tuples.{with_value, first_or, close_slots}
use Rattle.gm_value.proofs.TupleLaws.{tuples-fit}
use Rattle.gm_forms.specs.Cut.{can_overflow}
use Rattle.gm_semantics.specs.declared.faults.Fault.{Fault}
use Rattle.gm_semantics.specs.declared.slots.Slot.{Slot}
use Rattle.gm_semantics.specs.declared.slots.Slot.TheVariants.{Scalar, Node}
use Rattle.gm_semantics.specs.Contributions.{Contribution, statement_of, to_target, close_by, statement_bound, taken_onto, target_taken, target_fault, fault_in, total_faults}
use Rattle.gm_semantics.specs.Faults as F
use Rattle.gm_semantics.specs.Laws.{OneReduction}
use Rattle.gm_semantics.specs.Stores.{Store, slots_eq, has_slot, read, reads}
use Rattle.gm_semantics.proofs.ContributionLaws.{IsIn-filter, slots_eq-true, has_first, taken_onto-empty}
use Rattle.gm_lowering.proofs.Settles.{somes-in, least-is}
use Rattle.gm_typed_stores.specs.Stores.{IsTypedStore, slot_type, IsDeclared, Reduces, IsTypedContribution}
use Rattle.gm_typed_stores.specs.Tells.{TypeTable}
use Rattle.gm_typed_stores.specs.Values.{IsValue, AreValues, Each}
use Rattle.gm_typed_stores.proofs.Eaches.{each-map, each-weaker, each-filter}
use Rattle.gm_typed_stores.proofs.Kept.{holds-scalar}
use Rattle.gm_typed_stores.proofs.Values.{close_slots-values}
use Rattle.gm_lowering_master.proofs.SentLast.{from-map}

-- ---- one value

one-fits : (less : Bool) (t : VType) (a b : ℤ) → IsTrue (fits t a) → IsTrue (fits t b) → IsTrue (fits t (cond less a b))
one-fits true t a b h k = h
one-fits false t a b h k = k

picked-fits : (r : Reduce) (t : VType) (a b : ℤ) → can_overflow r ≡ false → IsTrue (fits t a) → IsTrue (fits t b) → IsTrue (fits t (combined r a b))
picked-fits Sum t a b e h k = absurd (both_ways true e refl)
picked-fits Product t a b e h k = absurd (both_ways true e refl)
picked-fits Min t a b e h k = one-fits (int_lt b a) t b a k h
picked-fits Max t a b e h k = one-fits (int_lt b a) t a b h k
picked-fits And t a b e h k = one-fits (int_lt b a) t b a k h
picked-fits Or t a b e h k = one-fits (int_lt b a) t a b h k

unit-fits : (r : Reduce) (t : VType) → can_overflow r ≡ false → IsTrue (fits t (unit_of r t))
unit-fits Sum t e = absurd (both_ways true e refl)
unit-fits Product t e = absurd (both_ways true e refl)
unit-fits Min V.I32 e = refl
unit-fits Min V.I64 e = refl
unit-fits Min V.Flag e = refl
unit-fits Min V.Node e = refl
unit-fits Max V.I32 e = refl
unit-fits Max V.I64 e = refl
unit-fits Max V.Flag e = refl
unit-fits Max V.Node e = refl
unit-fits And V.I32 e = refl
unit-fits And V.I64 e = refl
unit-fits And V.Flag e = refl
unit-fits And V.Node e = refl
unit-fits Or V.I32 e = refl
unit-fits Or V.I64 e = refl
unit-fits Or V.Flag e = refl
unit-fits Or V.Node e = refl

total-fits : (r : Reduce) (t : VType) (bag : List Value) → can_overflow r ≡ false → Each (IsOf t) bag → IsTrue (fits t (total r t bag))
total-fits r t [] e each = unit-fits r t e
total-fits r t (v ∷ bag) e each = picked-fits r t (number_of v) (total r t bag) e each.0.1 (total-fits r t bag e each.1)

-- a value is closed
close-fine : (r : Reduce) (t : VType) (held : Value) (bag : List Value) → can_overflow r ≡ false → IsOf t held → Each (IsOf t) bag → (v : Value) × (close r held bag ≡ Ok v)
close-fine r t held bag e h each =
    (value_at t z, ap (λ u. checked u (combined r (number_of held) (total r u bag))) h.0 ∙ ap (λ b. if b then Ok (value_at t z) else Err Overflow) fine) where
      z : ℤ
      z = combined r (number_of held) (total r t bag)

      fine : IsTrue (fits t z)
      fine = picked-fits r t (number_of held) (total r t bag) e h.1 (total-fits r t bag e each)

-- ---- slots of a target

abbrev is_one : {A : Type 0} → Option A → Bool
is_one None = false
is_one (Some z) = true

module _ (limit : ℕ) where
  of-types : (ts : List VType) (vs : List Value) → AreValues limit ts vs → AreOf ts vs
  of-types [] [] h = tt
  of-types [] (v ∷ vs) h = absurd h
  of-types (t ∷ ts) [] h = absurd h
  of-types (t ∷ ts) (v ∷ vs) h = (h.0.of_type, of-types ts vs h.1)

  each-of-types : (ts : List VType) (bag : List (List Value)) → Each (AreValues limit ts) bag → EachAreOf ts bag
  each-of-types ts [] h = tt
  each-of-types ts (vs ∷ bag) h = (of-types ts vs h.0, each-of-types ts bag h.1)

  first-of : (t : VType) (other : Value) (vs : List Value) → AreValues limit (t ∷ []) vs → IsOf t (first_or other vs)
  first-of t other [] h = absurd h
  first-of t other (v ∷ vs) h = h.0.of_type

  some-value : (q : Result Value FaultKind) (v : Value) → q ≡ Ok v → with_value q (Some []) ≢ None
  some-value q v e n = both_ways false refl (sym (ap is_one n) ∙ ap (λ a. is_one (with_value a (Some []))) e)

  slots-some : (r : Reduce) (ts : List VType) (held : List Value) (bag : List (List Value)) → can_overflow r ≡ false → AreValues limit ts held → Each (AreValues limit ts) bag → close_slots r held bag ≢ None
  slots-some r [] [] bag e h each = λ n. both_ways true (ap is_one n) refl
  slots-some r [] (v ∷ held) bag e h each = absurd h
  slots-some r (t ∷ ts) [] bag e h each = absurd h
  slots-some r (t ∷ []) (v ∷ []) bag e h each =
      let q = close-fine r t v (map (first_or v) bag) e h.0.of_type (each-map (IsOf t) (first_or v) bag (each-weaker (AreValues limit (t ∷ [])) (λ (vs : List Value). IsOf t (first_or v vs)) bag (λ vs g. first-of t v vs g) each)) in
      some-value (close r v (map (first_or v) bag)) q.0 q.1
  slots-some r (t ∷ []) (v ∷ (u ∷ held)) bag e h each = absurd h.1
  slots-some r (t ∷ (s ∷ ts)) (v ∷ []) bag e h each = absurd h.1
  slots-some r (t ∷ (s ∷ ts)) (v ∷ (u ∷ held)) bag e h each =
      tuples-fit r (t ∷ (s ∷ ts)) (v ∷ (u ∷ held)) bag (omega arith) (of-types (t ∷ (s ∷ ts)) (v ∷ (u ∷ held)) h) (each-of-types (t ∷ (s ∷ ts)) bag each)

  -- they are closed
  slots-fine : (r : Reduce) (ts : List VType) (held : List Value) (bag : List (List Value)) → can_overflow r ≡ false → Reduces r ts → AreValues limit ts held → Each (AreValues limit ts) bag
      → (vs : List Value) × (close_slots r held bag ≡ Some vs) × AreValues limit ts vs
  slots-fine r ts held bag e red h each = by (close_slots r held bag) refl (close_slots-values limit r ts held bag red h each) (slots-some r ts held bag e h each) where
    by : (o : Option (List Value)) → close_slots r held bag ≡ o → IfSome o (AreValues limit ts) → o ≢ None → (vs : List Value) × (close_slots r held bag ≡ Some vs) × AreValues limit ts vs
    by (Some vs) i v n = (vs, i, v)
    by None i v n = absurd (n refl)

-- ---- taking

module _ {C V : Type 0} (rank : C → ℕ) (close' : V → List C → Option V) (P : V → Type 0) (Q : C → Type 0)
    (closes : (held : V) (c : C) (bag : List C) → P held → Each Q (c ∷ bag) → (v : V) × (close' held (c ∷ bag) ≡ Some v) × P v) where
  abbrev Fine : Result V ℕ → Type 0
  Fine r = (v : V) × (r ≡ Ok v) × P v

  bag-fine : (s : ℕ) (held : V) (bag : List C) → P held → Each Q bag → Fine (taken_bag close' s held bag)
  bag-fine s held [] h each = (held, refl, h)
  bag-fine s held (c ∷ bag) h each = let q = closes held c bag h each in (q.0, ap (at_rank s) q.1, q.2)

  then-fine : (r : Result V ℕ) (f : V → Result V ℕ) → Fine r → ((v : V) → P v → Fine (f v)) → Fine (then_take r f)
  then-fine r f q k = let z = k q.0 q.2 in (z.0, ap (λ a. then_take a f) q.1 ∙ z.1, z.2)

  taken-fine : (bound : ℕ) (held : V) (cs : List C) → P held → Each Q cs → Fine (taken rank close' bound held cs)
  taken-fine zero held cs h each = (held, refl, h)
  taken-fine (suc s) held cs h each =
      then-fine (taken rank close' s held cs) (λ v. taken_bag close' s v (of_rank rank s cs)) (taken-fine s held cs h each)
      (λ v k. bag-fine s v (of_rank rank s cs) k
      (each-weaker (λ c. Q c × (nat_eq (rank c) s ≡ true)) Q (of_rank rank s cs) (λ c g. g.0) (each-filter Q (λ c. nat_eq (rank c) s) cs each)))

-- ---- contributions

module _ (table : TypeTable) where
  abbrev types : List Slot → List VType
  types slots = map (slot_type table) slots

  -- a contribution to slots of some types
  record GivesTo (ts : List VType) (c : Contribution) : Type 0 where
    values : AreValues table.limit ts c.values
    reduces : Reduces c.reduce ts

  to_target-gives : (slots : List Slot) (cs : List Contribution) → Each (IsTypedContribution table) cs → Each (GivesTo (types slots)) (to_target slots cs)
  to_target-gives slots cs each =
      each-weaker (λ (c : Contribution). IsTypedContribution table c × (slots_eq slots c.slots ≡ true)) (GivesTo (types slots)) (to_target slots cs)
      (λ c g. let e = slots_eq-true slots c.slots g.1 in
      record {
        values = subst (λ (xs : List Slot). AreValues table.limit (types xs) c.values) (sym e) g.0.values;
        reduces = subst (λ (xs : List Slot). Reduces c.reduce (types xs)) (sym e) g.0.reduces;
      })
      (each-filter (IsTypedContribution table) (λ c. slots_eq slots c.slots) cs each)

  onto-fine : (ts : List VType) (held : List Value) (c : Contribution) (cs : List Contribution) → can_overflow c.reduce ≡ false → AreValues table.limit ts held → Each (GivesTo ts) (c ∷ cs)
      → (vs : List Value) × (taken_onto held (c ∷ cs) ≡ Ok vs)
  onto-fine ts held c cs e h each =
      let q =
      taken-fine statement_of (close_by c.reduce) (AreValues table.limit ts) (GivesTo ts)
      (λ held d bag k all. slots-fine table.limit c.reduce ts held (map (λ (x : Contribution). x.values) (d ∷ bag)) e each.0.reduces k
      (each-map (AreValues table.limit ts) (λ (x : Contribution). x.values) (d ∷ bag) (each-weaker (GivesTo ts) (λ (x : Contribution). AreValues table.limit ts x.values) (d ∷ bag) (λ x g. g.values) all)))
      (statement_bound (c ∷ cs)) held (c ∷ cs) h each in
      (q.0, q.1)

  -- what slots hold that are declared
  read-value : (its : List ℕ) (s : Store) (slot : Slot) → IsDeclared table slot → IsTypedStore table its s → IsValue table.limit (slot_type table slot) (read s slot)
  read-value its s (Scalar x) d h = h.scalar x (holds-scalar table its x d)
  read-value its s (Node p n) d h = h.node p n d

  reads-values : (its : List ℕ) (s : Store) (slots : List Slot) → Each (IsDeclared table) slots → IsTypedStore table its s → AreValues table.limit (types slots) (reads s slots)
  reads-values its s [] d h = tt
  reads-values its s (x ∷ slots) d h = (read-value its s x d.0 h, reads-values its s slots d.1 h)

  each-in : {A : Type 0} (P : A → Type 0) (xs : List A) (x : A) → Each P xs → IsIn x xs → P x
  each-in P [] x h i = absurd i
  each-in P (y ∷ ys) x h i = ⊎_elim (λ (e : x ≡ y). subst P (sym e) h.0) (λ (j : IsIn x ys). each-in P ys x h.1 j) i

  no-fault : {V : Type 0} (cs : List Contribution) (q : Result V ℕ) (v : V) (f : Fault) → q ≡ Ok v → fault_in cs q ≡ Some f → ⊥
  no-fault cs q v f e h = both_ways false refl (sym (ap (λ a. is_one (fault_in cs a)) e) ∙ ap is_one h)

  module _ (its : List ℕ) (s : Store) (cs : List Contribution) (f : Fault) (h : IsTypedStore table its s) (each : Each (IsTypedContribution table) cs) (one : OneReduction cs) where
    -- a fault of the total of a Sum or a Product
    abbrev Out : Type 0
    Out = (y : Contribution) × IsIn y cs × (f ≡ F.total_fault y.total) × (can_overflow y.reduce ≡ true)

    in-all : (slot : Slot) (slots : List Slot) (y : Contribution) → IsIn y (to_target (slot ∷ slots) cs) → IsIn y cs × IsTrue (has_slot slot y.slots)
    in-all slot slots y j =
        let w = IsIn-filter (λ (c : Contribution). slots_eq (slot ∷ slots) c.slots) y cs j in
        (w.0, subst (λ (xs : List Slot). IsTrue (has_slot slot xs)) (slots_eq-true (slot ∷ slots) y.slots w.1) (has_first slot slots))

    fine : (slot : Slot) (slots : List Slot) → Each (IsDeclared table) (slot ∷ slots) → (y : Contribution) → IsIn y (to_target (slot ∷ slots) cs) → can_overflow y.reduce ≡ false → (xs : List Contribution) → to_target (slot ∷ slots) cs ≡ xs
        → (vs : List Value) × (taken_onto (reads s (slot ∷ slots)) xs ≡ Ok vs)
    fine slot slots d y j e [] k = (reads s (slot ∷ slots), refl)
    fine slot slots d y j e (c ∷ xs) k =
        let a = in-all slot slots y j in
        let b = in-all slot slots c (subst (IsIn c) (sym k) (inl refl)) in
        onto-fine (types (slot ∷ slots)) (reads s (slot ∷ slots)) c xs (ap can_overflow (sym (one y c slot a.0 b.0 a.1 b.1).0) ∙ e) (reads-values its s (slot ∷ slots) d h)
        (subst (Each (GivesTo (types (slot ∷ slots)))) k (to_target-gives (slot ∷ slots) cs each))

    over : (slot : Slot) (slots : List Slot) → Each (IsDeclared table) (slot ∷ slots) → (y : Contribution) → IsIn y (to_target (slot ∷ slots) cs) → target_fault s cs (slot ∷ slots) ≡ Some f → (b : Bool) → can_overflow y.reduce ≡ b → b ≡ true
    over slot slots d y j e true k = refl
    over slot slots d y j e false k =
        let w = fine slot slots d y j k (to_target (slot ∷ slots) cs) refl in absurd (no-fault (to_target (slot ∷ slots) cs) (target_taken s cs (slot ∷ slots)) w.0 f w.1 e)

    found : (slot : Slot) (slots : List Slot) → Each (IsDeclared table) (slot ∷ slots) → (r : Result (List Value) ℕ) → target_taken s cs (slot ∷ slots) ≡ r → fault_in (to_target (slot ∷ slots) cs) r ≡ Some f → Out
    found slot slots d (Ok vs) k e = absurd (both_ways false refl (ap is_one e))
    found slot slots d (Err st) k e =
        let all = slot ∷ slots in
        let l = least-is (map (λ (y : Contribution). F.total_fault y.total) (of_rank statement_of st (to_target all cs))) f e in
        let q = from-map (λ (y : Contribution). F.total_fault y.total) (of_rank statement_of st (to_target all cs)) f l.is_in in
        let w = IsIn-filter (λ (y : Contribution). nat_eq (statement_of y) st) q.0 (to_target all cs) q.1 in
        (q.0, (in-all slot slots q.0 w.0).0, q.2, over slot slots d q.0 w.0 (ap (fault_in (to_target all cs)) k ∙ e) (can_overflow q.0.reduce) refl)

    of-target : (slots : List Slot) → Each (IsDeclared table) slots → target_fault s cs slots ≡ Some f → Out
    of-target [] d e = absurd (no-fault (to_target [] cs) (target_taken s cs []) [] f (taken_onto-empty (to_target [] cs)) e)
    of-target (slot ∷ slots) d e = found slot slots d (target_taken s cs (slot ∷ slots)) refl e

    -- a fault of totals is one
    pub out-of-range : IsIn f (total_faults s cs) → Out
    out-of-range i =
        let q = somes-in (λ (x : Contribution). target_fault s cs x.slots) cs f i in
        of-target q.0.slots (each-in (IsTypedContribution table) cs q.0 each q.1).declared q.2
