-- What contributions leave that go to different targets.
use Rattle.std.proofs.Common.{◌≡◌, ◌≢◌, arith, ℕ, zero, suc, Bool, true, false, cond, List, [], ◌∷◌, ◌++◌, map, refl, sym, ap, ◌∙◌, append-nil, Option, Some, None, ⊎_elim, inl, inr}
use Rattle.std.proofs.Math.Path.{fun_ext}
use Rattle.std.proofs.lemmas.Bool.{cases_Bool}
use Rattle.gm_value.specs.declared.values.Value.{Value}
use Rattle.gm_value.specs.Bag.{IsIn}
use Rattle.gm_semantics.specs.declared.faults.Fault.{Fault}
use Rattle.gm_semantics.specs.declared.slots.Slot.{Slot}
use Rattle.gm_semantics.specs.declared.slots.Slot.TheVariants.{Scalar, Node}
use Rattle.gm_semantics.specs.Stores.{Store, slots_eq, has_slot, read, reads}
use Rattle.gm_semantics.specs.Faults.{somes, joined}
use Rattle.gm_semantics.specs.Levels.{numbers_from}
use Rattle.gm_semantics.specs.Contributions.{Contribution, to_target, target_of, taken_onto, values_or, fault_in, value_among, value_after, target_fault, settled_store, total_faults}
use Rattle.gm_semantics.specs.Laws.{Away}
use Rattle.gm_semantics.proofs.ContributionLaws.{slots_eq-true, has_first}
use Rattle.gm_semantics.proofs.TargetLaws.{Reaches, reaches?, never, nothing-to, value-away, read-settled, reads-same}
use Rattle.gm_forms.proofs.Doings.{in-either}
use Rattle.gm_forms.proofs.Takings.{filter-append}
use Rattle.gm_loop_laws.proofs.Joins.{map-append, map-each, from-on}

-- a slot is among those of its target
pub target-has : (slot : Slot) (cs : List Contribution) → has_slot slot (target_of slot cs) ≡ true
target-has slot [] = has_first slot []
target-has slot (c ∷ cs) = by (has_slot slot c.slots) refl (target-has slot cs)
  where
    by : (b : Bool) → has_slot slot c.slots ≡ b → has_slot slot (target_of slot cs) ≡ true → has_slot slot (cond b c.slots (target_of slot cs)) ≡ true
    by true e h = e
    by false e h = h

-- it is that of a contribution, where one reaches the slot
pub target-of : (slot : Slot) (cs : List Contribution) → Reaches slot cs → (c : Contribution) × IsIn c cs × (target_of slot cs ≡ c.slots)
target-of slot [] r = absurd r.among
target-of slot (c ∷ cs) r = by (has_slot slot c.slots) refl (target-of slot cs) r.among
  where
    by : (b : Bool) → has_slot slot c.slots ≡ b → (Reaches slot cs → (d : Contribution) × IsIn d cs × (target_of slot cs ≡ d.slots)) → IsIn r.by (c ∷ cs) → (d : Contribution) × IsIn d (c ∷ cs) × (cond b c.slots (target_of slot cs) ≡ d.slots)
    by true e h i = (c, inl refl, refl)
    by false e h i =
        let rest : IsIn r.by cs = ⊎_elim (λ (is : r.by ≡ c). never (sym (ap (λ (d : Contribution). has_slot slot d.slots) is) ∙ r.has) e) (λ j. j) i in
        let found = h (record { by = r.by; among = rest; has = r.has }) in
        (found.0, inr found.1, found.2)

pub target-alone : (slot : Slot) (cs : List Contribution) → Away slot cs → target_of slot cs ≡ slot ∷ []
target-alone slot [] away = refl
target-alone slot (c ∷ cs) away = ap (λ b. cond b c.slots (target_of slot cs)) (away c (inl refl)) ∙ target-alone slot cs (λ d i. away d (inr i))

target-left : (slot : Slot) (cs ds : List Contribution) → Away slot ds → target_of slot (cs ++ ds) ≡ target_of slot cs
target-left slot [] ds away = target-alone slot ds away
target-left slot (c ∷ cs) ds away = ap (λ t. cond (has_slot slot c.slots) c.slots t) (target-left slot cs ds away)

target-right : (slot : Slot) (cs ds : List Contribution) → Away slot cs → target_of slot (cs ++ ds) ≡ target_of slot ds
target-right slot [] ds away = refl
target-right slot (c ∷ cs) ds away = ap (λ b. cond b c.slots (target_of slot (cs ++ ds))) (away c (inl refl)) ∙ target-right slot cs ds (λ d i. away d (inr i))

abbrev value_with : Store → Slot → List Slot → List Contribution → Value
value_with s slot slots cs = value_among slot slots (values_or (reads s slots) (taken_onto (reads s slots) cs)) (read s slot)

-- a slot's value is by the contributions that reach it
pub value-left : (s : Store) (slot : Slot) (cs ds : List Contribution) → Away slot ds → value_after s (cs ++ ds) slot ≡ value_after s cs slot
value-left s slot cs ds away =
    ap (λ t. value_with s slot t (to_target t (cs ++ ds))) (target-left slot cs ds away)
    ∙ ap (value_with s slot (target_of slot cs))
    (filter-append (λ c. slots_eq (target_of slot cs) c.slots) cs ds
    ∙ ap (λ l. to_target (target_of slot cs) cs ++ l) (nothing-to slot (target_of slot cs) ds (target-has slot cs) away)
    ∙ append-nil (to_target (target_of slot cs) cs))

pub value-right : (s : Store) (slot : Slot) (cs ds : List Contribution) → Away slot cs → value_after s (cs ++ ds) slot ≡ value_after s ds slot
value-right s slot cs ds away =
    ap (λ t. value_with s slot t (to_target t (cs ++ ds))) (target-right slot cs ds away)
    ∙ ap (value_with s slot (target_of slot ds))
    (filter-append (λ c. slots_eq (target_of slot ds) c.slots) cs ds
    ∙ ap (λ l. l ++ to_target (target_of slot ds) ds) (nothing-to slot (target_of slot ds) cs (target-has slot ds) away))

-- and by what its target holds
pub value-store : (s t : Store) (slot : Slot) (cs : List Contribution) → ((x : Slot) → has_slot x (target_of slot cs) ≡ true → read s x ≡ read t x) → value_after s cs slot ≡ value_after t cs slot
value-store s t slot cs h =
    let slots = target_of slot cs in
    ap (λ vs. value_among slot slots (values_or vs (taken_onto vs (to_target slots cs))) (read s slot)) (reads-same s t slots h)
    ∙ ap (λ v. value_among slot slots (values_or (reads t slots) (taken_onto (reads t slots) (to_target slots cs))) v) (h slot (target-has slot cs))

-- none of many lists reaches a slot
pub away-joined : (slot : Slot) (H : ℕ → List Contribution) (ks : List ℕ) → ((z : ℕ) → IsIn z ks → Away slot (H z)) → Away slot (joined (map H ks))
away-joined slot H [] h c i = absurd i
away-joined slot H (k ∷ ks) h c i = ⊎_elim (λ j. h k (inl refl) c j) (λ j. away-joined slot H ks (λ z m. h z (inr m)) c j) (in-either c (H k) (joined (map H ks)) i)

-- of many lists one alone reaches a slot
pub value-one : (s : Store) (slot : Slot) (H : ℕ → List Contribution) (x j m : ℕ) → IsIn x (numbers_from j m) → ((z : ℕ) → z ≢ x → Away slot (H z)) → value_after s (joined (map H (numbers_from j m))) slot ≡ value_after s (H x) slot
value-one s slot H x j zero i h = absurd i
value-one s slot H x j (suc m) i h =
    ⊎_elim
    (λ (e : x ≡ j).
    value-left s slot (H j) (joined (map H (numbers_from (suc j) m))) (away-joined slot H (numbers_from (suc j) m) (λ z k. let b = from-on (suc j) m z k in h z (λ d. omega arith)))
    ∙ ap (λ z. value_after s (H z) slot) (sym e))
    (λ r.
    let b = from-on (suc j) m x r in
    value-right s slot (H j) (joined (map H (numbers_from (suc j) m))) (h j (λ d. omega arith)) ∙ value-one s slot H x (suc j) m r h) i

-- stores that hold the same in each slot are one
pub store-same : (a b : Store) → ((slot : Slot) → read a slot ≡ read b slot) → a.edge ≡ b.edge → a ≡ b
store-same a b h e =
    ap (λ f. record a { scalar = f }) (fun_ext (λ x. h (Scalar x))) ∙ ap (λ f. record { scalar = b.scalar; node = f; edge = a.edge }) (fun_ext (λ p. fun_ext (λ n. h (Node p n))))
    ∙ ap (λ f. record b { edge = f }) e

pub somes-append : (xs ys : List (Option Fault)) → somes (xs ++ ys) ≡ somes xs ++ somes ys
somes-append [] ys = refl
somes-append (None ∷ xs) ys = somes-append xs ys
somes-append (Some f ∷ xs) ys = ap (λ l. f ∷ l) (somes-append xs ys)

none-to : (slots : List Slot) (xs : List Contribution) → ((x : Contribution) → IsIn x xs → slots ≢ x.slots) → to_target slots xs ≡ []
none-to slots [] h = refl
none-to slots (x ∷ xs) h = by (slots_eq slots x.slots) refl (none-to slots xs (λ y i. h y (inr i)))
  where
    by : (b : Bool) → slots_eq slots x.slots ≡ b → to_target slots xs ≡ [] → cond b (x ∷ to_target slots xs) (to_target slots xs) ≡ []
    by true e rest = absurd (h x (inl refl) (slots_eq-true slots x.slots e))
    by false e rest = rest

-- the faults of the totals of two lists with no target in common
pub totals-apart : (s : Store) (cs ds : List Contribution) → ((c d : Contribution) → IsIn c cs → IsIn d ds → c.slots ≢ d.slots) → total_faults s (cs ++ ds) ≡ total_faults s cs ++ total_faults s ds
totals-apart s cs ds others =
    ap somes (map-append (λ (c : Contribution). target_fault s (cs ++ ds) c.slots) cs ds)
    ∙ somes-append (map (λ (c : Contribution). target_fault s (cs ++ ds) c.slots) cs) (map (λ (c : Contribution). target_fault s (cs ++ ds) c.slots) ds)
    ∙ ap (λ l. somes l ++ somes (map (λ (c : Contribution). target_fault s (cs ++ ds) c.slots) ds)) (map-each (λ (c : Contribution). target_fault s (cs ++ ds) c.slots) (λ c. target_fault s cs c.slots) cs left)
    ∙ ap (λ l. total_faults s cs ++ somes l) (map-each (λ (c : Contribution). target_fault s (cs ++ ds) c.slots) (λ c. target_fault s ds c.slots) ds right)
  where
    left : (c : Contribution) → IsIn c cs → target_fault s (cs ++ ds) c.slots ≡ target_fault s cs c.slots
    left c i =
        ap (λ l. fault_in l (taken_onto (reads s c.slots) l))
        (filter-append (λ d. slots_eq c.slots d.slots) cs ds ∙ ap (λ l. to_target c.slots cs ++ l) (none-to c.slots ds (λ d j. others c d i j)) ∙ append-nil (to_target c.slots cs))

    right : (d : Contribution) → IsIn d ds → target_fault s (cs ++ ds) d.slots ≡ target_fault s ds d.slots
    right d j =
        ap (λ l. fault_in l (taken_onto (reads s d.slots) l))
        (filter-append (λ c. slots_eq d.slots c.slots) cs ds ∙ ap (λ l. l ++ to_target d.slots ds) (none-to d.slots cs (λ c i e. others c d i j (sym e))))

-- Two lists of contributions with no target, and no slot, in common
module _ (s : Store) (cs ds : List Contribution) (apart : (c d : Contribution) (slot : Slot) → IsIn c cs → IsIn d ds → has_slot slot c.slots ≡ true → has_slot slot d.slots ≡ true → ⊥) (others : (c d : Contribution) → IsIn c cs → IsIn d ds → c.slots ≢ d.slots) where
  abbrev between : Store
  between = settled_store s cs

  kept : (slot : Slot) (d : Contribution) → IsIn d ds → has_slot slot d.slots ≡ true → read between slot ≡ read s slot
  kept slot d j h =
      read-settled s cs slot ∙ value-away s slot cs (λ c i. ⊎_elim (λ (k : has_slot slot c.slots ≡ true). absurd (apart c d slot i j k h)) (λ e. e) (cases_Bool (has_slot slot c.slots)))

  value-both : (slot : Slot) → value_after between ds slot ≡ value_after s (cs ++ ds) slot
  value-both slot =
      ⊎_elim
      (λ (none : Away slot ds). value-away between slot ds none ∙ read-settled s cs slot ∙ sym (value-left s slot cs ds none))
      (λ (r : Reaches slot ds).
      let found = target-of slot ds r in
      value-store between s slot ds (λ x h. kept x found.0 found.1 (sym (ap (has_slot x) found.2) ∙ h))
      ∙ sym (value-right s slot cs ds (λ c i. ⊎_elim (λ (k : has_slot slot c.slots ≡ true). absurd (apart c r.by slot i r.among k r.has)) (λ e. e) (cases_Bool (has_slot slot c.slots)))))
      (reaches? slot ds)

  -- both are taken together as one after the other
  pub settled-both : settled_store between ds ≡ settled_store s (cs ++ ds)
  settled-both = store-same (settled_store between ds) (settled_store s (cs ++ ds)) (λ slot. read-settled between ds slot ∙ value-both slot ∙ sym (read-settled s (cs ++ ds) slot)) refl

  fault-kept : (d : Contribution) → IsIn d ds → target_fault s ds d.slots ≡ target_fault between ds d.slots
  fault-kept d j = ap (λ vs. fault_in (to_target d.slots ds) (taken_onto vs (to_target d.slots ds))) (sym (reads-same between s d.slots (λ x h. kept x d j h)))

  -- so are the faults of their totals
  pub totals-both : total_faults s (cs ++ ds) ≡ total_faults s cs ++ total_faults between ds
  totals-both = totals-apart s cs ds others ∙ ap (λ l. total_faults s cs ++ somes l) (map-each (λ (c : Contribution). target_fault s ds c.slots) (λ c. target_fault between ds c.slots) ds fault-kept)
