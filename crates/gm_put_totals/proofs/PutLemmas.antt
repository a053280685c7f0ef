-- What a line gives to one slot with each of some values settles as the contribution of their total.
use Rattle.std.proofs.Common.{◌≡◌, ℕ, zero, suc, Bool, true, false, cond, ◌&&◌, ◌||◌, nat_eq, Option, Some, None, Ok, List, [], ◌∷◌, ◌++◌, map, refl, sym, ap, subst, ◌∙◌, arith}
use Rattle.std.specs.Prelude.{IsTrue, filter, All, slice_get, if◌then◌else◌}
use Rattle.std.specs.List.{list_any, enumerate_from}
use Rattle.std.proofs.lemmas.Bool.{eq-eqb, eqb-true}
use Rattle.gm_value.specs.declared.values.VType.{VType}
use Rattle.gm_value.specs.declared.values.Value.{Value}
use Rattle.gm_value.specs.declared.reductions.Reduce.{Reduce}
use Rattle.gm_value.specs.Laws.{HasUnit}
use Rattle.gm_value.specs.Numbers.{type_of, number_of, value_at, fits, checked, IsOf}
use Rattle.gm_value.specs.Reductions.{combined, unit_of, total}
use Rattle.gm_value.specs.Taking.{of_rank, then_take, at_rank, taken_bag, taken}
use Rattle.gm_value.specs.Tuples.{first_or}
use Rattle.gm_value.proofs.TakingLaws.{then_take-each}
use Rattle.gm_columns.specs.Columns.{CanHold}
use Rattle.gm_image.specs.Parts.{is_among}
use Rattle.gm_image.specs.Folds.{Reduction, same_numbers}
use Rattle.gm_kernels.specs.Folding.{folds_into, folded_all}
use Rattle.gm_machine.specs.declared.faults.Fault.{Fault}
use Rattle.gm_machine.specs.Expressions.{value_at as held_at}
use Rattle.gm_machine.specs.Faults.{then_go, least_from}
use Rattle.gm_machine.specs.Settling.{answer_of}
use Rattle.gm_machine.specs.Taking.{Contribution, Settled, has_slot, to_target, closed, overflow_at, entry_of, slot_by, slot_after, value_or, fault_of, value_after, fault_after, settled}
use Rattle.gm_machine.proofs.OrderLaws.{AreBy, first-by, slot-among, map-each}
use Rattle.gm_machine.proofs.SingleSteps.{firsts_of, closed_first, in_list, taken-single}
use Rattle.gm_put_totals.specs.PutTotals.{single_put, single_puts, total_type, reduced_value, one_or_each, reduced_puts}
use Rattle.gm_put_totals.specs.Settling.{ReduceBy, SettleAs}
use Rattle.gm_put_totals.proofs.SettlingLemmas.{as-by, by-back, by-between, settles-itself}
use Rattle.gm_put_totals.proofs.TotalLemmas.{total-joined, unit-leaves, total-reduced}

-- what passes a test, of contributions among which some stand
filter-between : (p : Contribution → Bool) (before some behind : List Contribution) → filter p (before ++ (some ++ behind)) ≡ filter p before ++ (filter p some ++ filter p behind)
filter-between p before some behind = joins before (some ++ behind) ∙ ap (λ l. filter p before ++ l) (joins some behind) where
  joins : (xs ys : List Contribution) → filter p (xs ++ ys) ≡ filter p xs ++ filter p ys
  joins [] ys = refl
  joins (x ∷ xs) ys = by (p x) (joins xs ys) where
    by : (b : Bool) → filter p (xs ++ ys) ≡ filter p xs ++ filter p ys → cond b (x ∷ filter p (xs ++ ys)) (filter p (xs ++ ys)) ≡ cond b (x ∷ filter p xs) (filter p xs) ++ filter p ys
    by true rest = ap (λ l. x ∷ l) rest
    by false rest = rest

-- two takings of which each rank's bags come to the same
taken-alike : {C V : Type 0} (rank : C → ℕ) (close : V → List C → Option V) (n : ℕ) (held : V) (some other : List C) →
    ((s : ℕ) (h : V) → taken_bag close s h (of_rank rank s some) ≡ taken_bag close s h (of_rank rank s other)) → taken rank close n held some ≡ taken rank close n held other
taken-alike rank close zero held some other same = refl
taken-alike rank close (suc n) held some other same =
    ap (λ e. then_take e (λ v. taken_bag close n v (of_rank rank n some))) (taken-alike rank close n held some other same)
    ∙ then_take-each (taken rank close n held other) (λ v. taken_bag close n v (of_rank rank n some)) (λ v. taken_bag close n v (of_rank rank n other)) (λ v. same n v)

or-same : (b c : Bool) → b || (b || c) ≡ b || c
or-same true c = refl
or-same false c = refl

or-false : (b : Bool) → b || false ≡ b
or-false true = refl
or-false false = refl

-- one slot's list
same-one : (slot : ℕ) (slots : List ℕ) → same_numbers (slot ∷ []) slots ≡ true → slots ≡ slot ∷ []
same-one slot [] is = cc
same-one slot (s ∷ []) is = ap (λ n. n ∷ []) (sym (eqb-true slot s (off (nat_eq slot s) is))) where
  off : (b : Bool) → b && true ≡ true → b ≡ true
  off true e = refl
  off false e = e
same-one slot (s ∷ (u ∷ slots)) is = never (nat_eq slot s) is where
  never : (b : Bool) → b && false ≡ true → s ∷ (u ∷ slots) ≡ slot ∷ []
  never true e = cc
  never false e = cc

module _ (place : ℕ) (r : Reduce) (slot : ℕ) where
  abbrev one : Value → Contribution
  one v = single_put place r slot v

  abbrev each : List Value → List Contribution
  each vs = single_puts place r slot vs

  -- a test that does not look at the values
  filter-each : (p : Contribution → Bool) (b : Bool) → ((v : Value) → p (one v) ≡ b) → (vs : List Value) → filter p (each vs) ≡ cond b (each vs) []
  filter-each p true all [] = refl
  filter-each p false all [] = refl
  filter-each p true all (v ∷ vs) = ap (λ b. cond b (one v ∷ filter p (each vs)) (filter p (each vs))) (all v) ∙ ap (λ l. one v ∷ l) (filter-each p true all vs)
  filter-each p false all (v ∷ vs) = ap (λ b. cond b (one v ∷ filter p (each vs)) (filter p (each vs))) (all v) ∙ filter-each p false all vs

  any-each : (s : ℕ) (v : Value) (vs : List Value) (behind : List Contribution) → list_any (has_slot s) (each (v ∷ vs) ++ behind) ≡ is_among s (slot ∷ []) || list_any (has_slot s) behind
  any-each s v [] behind = refl
  any-each s v (x ∷ vs) behind = ap (λ b. is_among s (slot ∷ []) || b) (any-each s x vs behind) ∙ or-same (is_among s (slot ∷ [])) (list_any (has_slot s) behind)

  each-by : (reduction : ℕ → Reduction) (v w : Value) (vs : List Value) → ReduceBy reduction (each (v ∷ vs)) → ReduceBy reduction (one w ∷ [])
  each-by reduction v w vs by = (by.0, tt)

  firsts-each : (h : Value) (vs : List Value) (behind : List Contribution) → firsts_of h (each vs ++ behind) ≡ vs ++ firsts_of h behind
  firsts-each h [] behind = refl
  firsts-each h (v ∷ vs) behind = ap (λ l. v ∷ l) (firsts-each h vs behind)

  -- values, and one that is their total
  module _ (t : VType) (v : Value) (vs : List Value) (w : Value) (unit : combined r (unit_of r t) (number_of v) ≡ number_of v) (number : number_of w ≡ total r t (v ∷ vs)) where
    any-same : (s : ℕ) (before behind : List Contribution) → list_any (has_slot s) (before ++ (each (v ∷ vs) ++ behind)) ≡ list_any (has_slot s) (before ++ (one w ∷ behind))
    any-same s [] behind = any-each s v vs behind
    any-same s (c ∷ before) behind = ap (λ b. has_slot s c || b) (any-same s before behind)

    total-same : (u : VType) (h : Value) (before behind : List Contribution) → total r u (firsts_of h (before ++ (each (v ∷ vs) ++ behind))) ≡ total r u (firsts_of h (before ++ (one w ∷ behind)))
    total-same u h [] behind =
        ap (total r u) (firsts-each h (v ∷ vs) behind)
        ∙ total-joined r t u v vs (firsts_of h behind) unit
        ∙ ap (λ z. combined r z (total r u (firsts_of h behind))) (sym number)
    total-same u h (c ∷ before) behind = ap (combined r (number_of (first_or h c.values))) (total-same u h before behind)

    closed-same : (h : Value) (before behind : List Contribution) → closed_first r h (before ++ (each (v ∷ vs) ++ behind)) ≡ closed_first r h (before ++ (one w ∷ behind))
    closed-same h before behind = ap (λ z. answer_of (checked (type_of h) (combined r (number_of h) z))) (total-same (type_of h) h before behind)

    bag-same : (s : ℕ) (h : Value) (before behind : List Contribution) → taken_bag (closed_first r) s h (before ++ (each (v ∷ vs) ++ behind)) ≡ taken_bag (closed_first r) s h (before ++ (one w ∷ behind))
    bag-same s h [] behind = ap (at_rank s) (closed-same h [] behind)
    bag-same s h (c ∷ before) behind = ap (at_rank s) (closed-same h (c ∷ before) behind)

    -- the bags of a rank
    rank-same : (before behind : List Contribution) (s : ℕ) (h : Value) →
        taken_bag (closed_first r) s h (of_rank (λ c. c.place) s (before ++ (each (v ∷ vs) ++ behind))) ≡ taken_bag (closed_first r) s h (of_rank (λ c. c.place) s (before ++ (one w ∷ behind)))
    rank-same before behind s h = by (nat_eq place s) refl where
      at : Contribution → Bool
      at c = nat_eq c.place s

      by : (b : Bool) → nat_eq place s ≡ b → taken_bag (closed_first r) s h (filter at (before ++ (each (v ∷ vs) ++ behind))) ≡ taken_bag (closed_first r) s h (filter at (before ++ (one w ∷ behind)))
      by true is =
          ap (taken_bag (closed_first r) s h) (filter-between at before (each (v ∷ vs)) behind ∙ ap (λ l. filter at before ++ (l ++ filter at behind)) (filter-each at true (λ x. is) (v ∷ vs)))
          ∙ bag-same s h (filter at before) (filter at behind)
          ∙ sym (ap (taken_bag (closed_first r) s h) (filter-between at before (one w ∷ []) behind ∙ ap (λ l. filter at before ++ (l ++ filter at behind)) (filter-each at true (λ x. is) (w ∷ []))))
      by false is =
          ap (taken_bag (closed_first r) s h) (
          filter-between at before (each (v ∷ vs)) behind
          ∙ ap (λ l. filter at before ++ (l ++ filter at behind)) (filter-each at false (λ x. is) (v ∷ vs) ∙ sym (filter-each at false (λ x. is) (w ∷ [])))
          ∙ sym (filter-between at before (one w ∷ []) behind))

    -- what the slot holds
    own-same : (places : ℕ) (held : List Value) (before behind : List Contribution) →
        slot_by places (before ++ (each (v ∷ vs) ++ behind)) held slot (Some (record { reduce = r; slots = slot ∷ [] })) ≡ slot_by places (before ++ (one w ∷ behind)) held slot (Some (record { reduce = r; slots = slot ∷ [] }))
    own-same places held before behind =
        let target : List Contribution → List Contribution = to_target (slot ∷ []) in
        let here : same_numbers (slot ∷ []) (slot ∷ []) ≡ true = ap (λ b. b && true) (eq-eqb slot slot refl) in
        let some_is : target (before ++ (each (v ∷ vs) ++ behind)) ≡ target before ++ (each (v ∷ vs) ++ target behind) =
        filter-between (λ c. same_numbers c.slots (slot ∷ [])) before (each (v ∷ vs)) behind
        ∙ ap (λ l. target before ++ (l ++ target behind)) (filter-each (λ c. same_numbers c.slots (slot ∷ [])) true (λ x. here) (v ∷ vs)) in
        let other_is : target (before ++ (one w ∷ behind)) ≡ target before ++ (one w ∷ target behind) =
        filter-between (λ c. same_numbers c.slots (slot ∷ [])) before (one w ∷ []) behind
        ∙ ap (λ l. target before ++ (l ++ target behind)) (filter-each (λ c. same_numbers c.slots (slot ∷ [])) true (λ x. here) (w ∷ [])) in
        let h : Value = held_at held slot in
        ap (λ e. then_go (overflow_at e) (λ values. Ok (entry_of slot (slot ∷ []) values h))) (
        ap (taken (λ c. c.place) (closed r) places (h ∷ [])) some_is
        ∙ taken-single r places h (target before ++ (each (v ∷ vs) ++ target behind))
        ∙ ap in_list (taken-alike (λ c. c.place) (closed_first r) places h (target before ++ (each (v ∷ vs) ++ target behind)) (target before ++ (one w ∷ target behind)) (rank-same (target before) (target behind)))
        ∙ sym (taken-single r places h (target before ++ (one w ∷ target behind)))
        ∙ sym (ap (taken (λ c. c.place) (closed r) places (h ∷ [])) other_is))

    -- what each slot holds
    module _ (reduction : ℕ → Reduction) (places : ℕ) (held : List Value) (before behind : List Contribution) (by : ReduceBy reduction (before ++ (each (v ∷ vs) ++ behind))) where
      abbrev some : List Contribution
      some = before ++ (each (v ∷ vs) ++ behind)

      abbrev other : List Contribution
      other = before ++ (one w ∷ behind)

      some_by : AreBy reduction some
      some_by = as-by reduction some by

      other_by : AreBy reduction other
      other_by = as-by reduction other (by-between reduction before (each (v ∷ vs)) (one w ∷ []) behind (each-by reduction v w vs) by)

      own_reduction : record { reduce = r; slots = slot ∷ [] } ≡ reduction slot
      own_reduction = (by-back reduction before (each (v ∷ vs) ++ behind) by).0.0

      targeted : (s : ℕ) (b : Bool) → same_numbers (slot ∷ []) (reduction s).slots ≡ b → list_any (has_slot s) some ≡ true →
          slot_by places some held s (Some (reduction s)) ≡ slot_by places other held s (Some (reduction s))
      targeted s true is any =
          let slots_are : (reduction s).slots ≡ slot ∷ [] = same-one slot (reduction s).slots is in
          let among : is_among s (slot ∷ []) ≡ true = ap (is_among s) (sym slots_are) ∙ slot-among reduction s some some_by any in
          let same : slot ≡ s = eqb-true slot s (sym (or-false (nat_eq slot s)) ∙ among) in
          subst (λ n. slot_by places some held n (Some (reduction n)) ≡ slot_by places other held n (Some (reduction n))) same
          (subst (λ q. slot_by places some held slot (Some q) ≡ slot_by places other held slot (Some q)) own_reduction (own-same places held before behind))
      targeted s false is any =
          let test : Contribution → Bool = λ c. same_numbers c.slots (reduction s).slots in
          ap (λ cs. then_go (overflow_at (taken (λ c. c.place) (closed (reduction s).reduce) places (map (held_at held) (reduction s).slots) cs)) (λ values. Ok (entry_of s (reduction s).slots values (held_at held s)))) (
          filter-between test before (each (v ∷ vs)) behind
          ∙ ap (λ l. filter test before ++ (l ++ filter test behind)) (filter-each test false (λ x. is) (v ∷ vs) ∙ sym (filter-each test false (λ x. is) (w ∷ [])))
          ∙ sym (filter-between test before (one w ∷ []) behind))

      reduced-or-not : (s : ℕ) (b : Bool) → list_any (has_slot s) some ≡ b → slot_by places some held s (cond b (Some (reduction s)) None) ≡ slot_by places other held s (cond b (Some (reduction s)) None)
      reduced-or-not s true any = targeted s (same_numbers (slot ∷ []) (reduction s).slots) refl any
      reduced-or-not s false any = refl

      slot-same : (s : ℕ) → slot_after places some held s ≡ slot_after places other held s
      slot-same s =
          ap (slot_by places some held s) (first-by reduction s some some_by)
          ∙ reduced-or-not s (list_any (has_slot s) some) refl
          ∙ ap (λ b. slot_by places other held s (cond b (Some (reduction s)) None)) (any-same s before behind)
          ∙ sym (ap (slot_by places other held s) (first-by reduction s other other_by))

      settled-same : settled places some held ≡ settled places other held
      settled-same =
          let made : List Value → List (Option Fault) → Settled = λ values faults. record { values = values; fault = least_from None faults } in
          ap (λ values. made values (map (fault_after places some held) (enumerate_from 0 held)))
          (map-each (value_after places some held) (value_after places other held) (enumerate_from 0 held) (λ at. ap (value_or at.1) (slot-same at.0)))
          ∙ ap (made (map (value_after places other held) (enumerate_from 0 held)))
          (map-each (fault_after places some held) (fault_after places other held) (enumerate_from 0 held) (λ at. ap fault_of (slot-same at.0)))

    pub total-settles : SettleAs (each (v ∷ vs)) (one w ∷ [])
    total-settles = record {
      reduce = λ reduction by. each-by reduction v w vs by;
      settle = λ reduction places before behind held by. settled-same reduction places held before behind by;
    }

-- the first of some values, if there is one, is of a type
abbrev pub BeginsWith : VType → List Value → Type 0
BeginsWith t [] = Unit {0}
BeginsWith t (v ∷ vs) = IsOf t v

-- what values of a type give settles as the contribution to which they are reduced
pub reduced-settles : ((r : Reduce) → HasUnit r) → (place : ℕ) (r : Reduce) (slot : ℕ) (t : VType) (values : List Value) → BeginsWith t values →
    SettleAs (single_puts place r slot values) (reduced_puts place r slot t values)
reduced-settles units place r slot t [] first = settles-itself []
reduced-settles units place r slot t (v ∷ vs) first = by (reduced_value r t (v ∷ vs)) refl where
  unit : combined r (unit_of r (total_type r t)) (number_of v) ≡ number_of v
  unit = unit-leaves units r t v first

  folds : (b : Bool) (w : Value) → (if b then folded_all r (value_at (total_type r t) (unit_of r (total_type r t))) (v ∷ vs) else None) ≡ Some w →
      folded_all r (value_at (total_type r t) (unit_of r (total_type r t))) (v ∷ vs) ≡ Some w
  folds true w is = is
  folds false w is = cc

  by : (o : Option Value) → reduced_value r t (v ∷ vs) ≡ o → SettleAs (single_puts place r slot (v ∷ vs)) (one_or_each place r slot (v ∷ vs) o)
  by None is = settles-itself (single_puts place r slot (v ∷ vs))
  by (Some w) is =
      total-settles place r slot (total_type r t) v vs w unit
      (total-reduced units r (total_type r t) v vs w unit (folds (folds_into r (total_type r t) t) w is))

-- the same of values that are all of the type
pub begins-with : (t : VType) (values : List Value) → All (IsOf t) values → BeginsWith t values
begins-with t [] all = tt
begins-with t (v ∷ vs) all = all 0 v (omega arith)

-- the same where the first is one of a column
pub begins-got : (t : VType) (values : List Value) (v : Value) → slice_get values 0 ≡ Some v → CanHold t v → IsTrue (fits (type_of v) (number_of v)) → BeginsWith t values
begins-got t [] v got held inside = tt
begins-got t (x ∷ xs) v got held inside =
    let same : x ≡ v = cc in
    subst (IsOf t) (sym same) (held.of_type, subst (λ u. IsTrue (fits u (number_of v))) held.of_type inside)
