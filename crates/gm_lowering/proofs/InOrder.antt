-- Contributions that are taken in two parts, of which those to one target stand in order, leave what they leave together.
use Rattle.std.proofs.Common.{◌≡◌, ◌⊎◌, inl, inr, ℕ, true, false, Option, Some, None, Result, Ok, Err, List, [], ◌∷◌, ◌++◌, refl, ap, ◌∙◌, sym, subst, append-nil, ⊎_elim}
use Rattle.std.proofs.lemmas.Bool.{cases_Bool}
use Rattle.gm_value.specs.declared.values.Value.{Value}
use Rattle.gm_value.specs.Bag.{IsIn}
use Rattle.gm_value.specs.Taking.{then_take}
use Rattle.gm_forms.proofs.Takings.{Before, filter-append, taken-both, fault-both, fault-first, onto-fails, fails-shown}
use Rattle.gm_semantics.specs.declared.faults.Fault.{Fault}
use Rattle.gm_semantics.specs.declared.slots.Slot.{Slot}
use Rattle.gm_semantics.specs.Contributions.{Contribution, to_target, target_of, taken_onto, values_or, fault_in, target_taken, target_fault, value_among, value_after, total_faults, settled_store}
use Rattle.gm_semantics.specs.Laws.{OneReduction, Distinct, Away}
use Rattle.gm_semantics.specs.Stores.{Store, slots_eq, has_slot, read, reads}
use Rattle.gm_semantics.proofs.ContributionLaws.{IsIn-filter, slots_eq-true, has_first}
use Rattle.gm_semantics.proofs.TargetLaws.{Reaches, reaches?, never, nothing-to, value-away, target_of-found, taken-length, reads-same, among-any, settled-reads, read-settled}
use Rattle.gm_lowering.proofs.Regions.{in-parts, in-front, in-back}
use Rattle.gm_lowering.proofs.Settles.{somes-in, in-somes}

-- how a taking ends
taking-of : (a : Result (List Value) ℕ) → ((v : List Value) × (a ≡ Ok v)) ⊎ ((t : ℕ) × (a ≡ Err t))
taking-of (Ok v) = inl (v, refl)
taking-of (Err t) = inr (t, refl)

-- of a first part, and then of a second one
module _ (r : Store) (cs ds : List Contribution) (before : (slots : List Slot) → Before (to_target slots cs) (to_target slots ds)) (distinct : (c : Contribution) → IsIn c cs → Distinct c.slots) (one : OneReduction (cs ++ ds)) where
  abbrev pub between : Store
  between = settled_store r cs

  one-first : OneReduction cs
  one-first x y slot i j e f = one x y slot (in-front x cs ds i) (in-front y cs ds j) e f

  one-second : OneReduction ds
  one-second x y slot i j e f = one x y slot (in-back x cs ds i) (in-back y cs ds j) e f

  to-both : (slots : List Slot) → to_target slots (cs ++ ds) ≡ to_target slots cs ++ to_target slots ds
  to-both slots = filter-append (λ (c : Contribution). slots_eq slots c.slots) cs ds

  target-in : (xs : List Contribution) (slots : List Slot) (c : Contribution) → IsIn c (to_target slots xs) → IsIn c xs × (slots ≡ c.slots)
  target-in xs slots c i = let t = IsIn-filter (λ (c : Contribution). slots_eq slots c.slots) c xs i in (t.0, slots_eq-true slots c.slots t.1)

  -- a target to which the first part gives, and whose taking goes well, holds then what was taken
  kept-there : (c : Contribution) (v : List Value) → IsIn c cs → target_taken r cs c.slots ≡ Ok v → reads between c.slots ≡ v
  kept-there c v i e = settled-reads r cs between c v one-first i (distinct c i) (λ slot. read-settled r cs slot) e

  -- one to which it does not give holds what it held
  untouched : (slots : List Slot) → ((slot : Slot) → has_slot slot slots ≡ true → Away slot cs) → reads between slots ≡ reads r slots
  untouched slots none = reads-same between r slots (λ slot has. read-settled r cs slot ∙ value-away r slot cs (none slot has))

  -- a target of one of both parts: the first one gives to it, or to none of its slots
  abbrev Given : List Slot → Type 0
  Given slots = ((c : Contribution) × IsIn c cs × (c.slots ≡ slots)) ⊎ ((to_target slots cs ≡ []) × (reads between slots ≡ reads r slots))

  given? : (d : Contribution) → IsIn d (cs ++ ds) → (slots : List Slot) → d.slots ≡ slots → Given slots
  given? d i [] e = by (to_target [] cs) refl where
    by : (l : List Contribution) → to_target [] cs ≡ l → Given []
    by [] k = inr (k, refl)
    by (c ∷ l) k = let w = target-in cs [] c (subst (IsIn c) (sym k) (inl refl)) in inl (c, w.0, sym w.1)
  given? d i (x ∷ xs) e =
      ⊎_elim
      (λ (away : Away x cs). inr (nothing-to x (x ∷ xs) cs (has_first x xs) away, untouched (x ∷ xs) (λ slot has c j. others slot has c j away)))
      (λ (w : Reaches x cs). inl (w.by, w.among, (one w.by d x (in-front w.by cs ds w.among) i w.has (ap (has_slot x) e ∙ has_first x xs)).1 ∙ e))
      (reaches? x cs) where
        others : (slot : Slot) → has_slot slot (x ∷ xs) ≡ true → (c : Contribution) → IsIn c cs → Away x cs → has_slot slot c.slots ≡ false
        others slot has c j away =
            ⊎_elim
            (λ (hit : has_slot slot c.slots ≡ true).
            let same : c.slots ≡ x ∷ xs = (one c d slot (in-front c cs ds j) i hit (ap (has_slot slot) e ∙ has)).1 ∙ e in
            never (ap (has_slot x) same ∙ has_first x xs) (away c j))
            (λ (miss : has_slot slot c.slots ≡ false). miss)
            (cases_Bool (has_slot slot c.slots))

  -- the taking of all is the second part's onto what the first one's left
  onto-both : (slots : List Slot) → target_taken r (cs ++ ds) slots ≡ then_take (target_taken r cs slots) (λ v. taken_onto v (to_target slots ds))
  onto-both slots = ap (taken_onto (reads r slots)) (to-both slots) ∙ taken-both (reads r slots) (to_target slots cs) (to_target slots ds) (before slots)

  -- where the first part's taking goes well, the second one goes on from what it left
  left-is : (slots : List Slot) → Given slots → (v : List Value) → target_taken r cs slots ≡ Ok v → reads between slots ≡ v
  left-is slots (inl w) v e = subst (λ z. reads between z ≡ v) w.2 (kept-there w.0 v w.1 (ap (target_taken r cs) w.2 ∙ e))
  left-is slots (inr w) v e = w.1 ∙ ap (values_or v) (sym (ap (taken_onto (reads r slots)) w.0) ∙ e)

  goes-on : (slots : List Slot) → Given slots → (v : List Value) → target_taken r cs slots ≡ Ok v → target_taken r (cs ++ ds) slots ≡ target_taken between ds slots
  goes-on slots g v e =
      onto-both slots ∙ ap (λ a. then_take a (λ u. taken_onto u (to_target slots ds))) e ∙ sym (ap (λ u. taken_onto u (to_target slots ds)) (left-is slots g v e))

  -- the faults of a target
  fault-of_first : (slots : List Slot) (t : ℕ) → target_taken r cs slots ≡ Err t → target_fault r (cs ++ ds) slots ≡ target_fault r cs slots
  fault-of_first slots t e =
      ap (λ l. fault_in l (taken_onto (reads r slots) l)) (to-both slots) ∙ fault-first (reads r slots) (to_target slots cs) (to_target slots ds) (before slots) t e

  fault-of_second : (slots : List Slot) → Given slots → (v : List Value) → target_taken r cs slots ≡ Ok v → target_fault r (cs ++ ds) slots ≡ target_fault between ds slots
  fault-of_second slots g v e =
      ap (λ l. fault_in l (taken_onto (reads r slots) l)) (to-both slots)
      ∙ fault-both (reads r slots) (to_target slots cs) (to_target slots ds) (before slots) v e
      ∙ sym (ap (λ u. fault_in (to_target slots ds) (taken_onto u (to_target slots ds))) (left-is slots g v e))

  -- a fault of a taking is one of contributions to its target
  some-given : (s : Store) (xs : List Contribution) (slots : List Slot) (f : Fault) → target_fault s xs slots ≡ Some f → (c : Contribution) × IsIn c xs × (slots ≡ c.slots)
  some-given s xs slots f e = by (target_taken s xs slots) refl e where
    by : (a : Result (List Value) ℕ) → target_taken s xs slots ≡ a → fault_in (to_target slots xs) a ≡ Some f → (c : Contribution) × IsIn c xs × (slots ≡ c.slots)
    by (Ok v) g k = absurd (cc)
    by (Err t) g k =
        let at = onto-fails (reads s slots) (to_target slots xs) t g in
        let w = target-in xs slots at.0 at.1 in (at.0, w.0, w.1)

  -- the faults of all totals are those of the first part's, and those of the second part's onto what it left
  pub to-parts : (f : Fault) → IsIn f (total_faults r (cs ++ ds)) → IsIn f (total_faults r cs) ⊎ IsIn f (total_faults between ds)
  to-parts f i =
      let x = somes-in (λ (z : Contribution). target_fault r (cs ++ ds) z.slots) (cs ++ ds) f i in
      ⊎_elim
      (λ (w : (v : List Value) × (target_taken r cs x.0.slots ≡ Ok v)).
      let second : target_fault between ds x.0.slots ≡ Some f = sym (fault-of_second x.0.slots (given? x.0 x.1 x.0.slots refl) w.0 w.1) ∙ x.2 in
      let d = some-given between ds x.0.slots f second in
      inr (in-somes (λ (z : Contribution). target_fault between ds z.slots) ds d.0 f d.1 (ap (target_fault between ds) (sym d.2) ∙ second)))
      (λ (w : (t : ℕ) × (target_taken r cs x.0.slots ≡ Err t)).
      let first : target_fault r cs x.0.slots ≡ Some f = sym (fault-of_first x.0.slots w.0 w.1) ∙ x.2 in
      let d = some-given r cs x.0.slots f first in
      inl (in-somes (λ (z : Contribution). target_fault r cs z.slots) cs d.0 f d.1 (ap (target_fault r cs) (sym d.2) ∙ first)))
      (taking-of (target_taken r cs x.0.slots))

  pub from-first : (f : Fault) → IsIn f (total_faults r cs) → IsIn f (total_faults r (cs ++ ds))
  from-first f i =
      let x = somes-in (λ (z : Contribution). target_fault r cs z.slots) cs f i in
      in-somes (λ (z : Contribution). target_fault r (cs ++ ds) z.slots) (cs ++ ds) x.0 f (in-front x.0 cs ds x.1)
      (⊎_elim
      (λ (w : (v : List Value) × (target_taken r cs x.0.slots ≡ Ok v)). let bad : None ≡ Some f = sym (ap (fault_in (to_target x.0.slots cs)) w.1) ∙ x.2 in absurd (cc))
      (λ (w : (t : ℕ) × (target_taken r cs x.0.slots ≡ Err t)). fault-of_first x.0.slots w.0 w.1 ∙ x.2)
      (taking-of (target_taken r cs x.0.slots)))

  -- where the first part's totals have no fault
  module _ (fine : (f : Fault) → IsIn f (total_faults r cs) → ⊥) where
    first-well : (d : Contribution) → IsIn d (cs ++ ds) → (v : List Value) × (target_taken r cs d.slots ≡ Ok v)
    first-well d i =
        ⊎_elim
        (λ (w : (v : List Value) × (target_taken r cs d.slots ≡ Ok v)). w)
        (λ (w : (t : ℕ) × (target_taken r cs d.slots ≡ Err t)). absurd (fails-shown (reads r d.slots) (to_target d.slots cs) w.0 w.1 (none (target_fault r cs d.slots) refl)))
        (taking-of (target_taken r cs d.slots)) where
          none : (o : Option Fault) → target_fault r cs d.slots ≡ o → o ≡ None
          none None e = refl
          none (Some f) e =
              let c = some-given r cs d.slots f e in
              absurd (fine f (in-somes (λ (z : Contribution). target_fault r cs z.slots) cs c.0 f c.1 (ap (target_fault r cs) (sym c.2) ∙ e)))

    pub from-second : (f : Fault) → IsIn f (total_faults between ds) → IsIn f (total_faults r (cs ++ ds))
    from-second f i =
        let x = somes-in (λ (z : Contribution). target_fault between ds z.slots) ds f i in
        let j = in-back x.0 cs ds x.1 in
        let w = first-well x.0 j in
        in-somes (λ (z : Contribution). target_fault r (cs ++ ds) z.slots) (cs ++ ds) x.0 f j (fault-of_second x.0.slots (given? x.0 j x.0.slots refl) w.0 w.1 ∙ x.2)

    -- and those of the second part none either, both leave what they leave together
    module _ (well : (f : Fault) → IsIn f (total_faults between ds) → ⊥) where
      second-well : (d : Contribution) → IsIn d ds → (v : List Value) × (target_taken between ds d.slots ≡ Ok v)
      second-well d i =
          ⊎_elim
          (λ (w : (v : List Value) × (target_taken between ds d.slots ≡ Ok v)). w)
          (λ (w : (t : ℕ) × (target_taken between ds d.slots ≡ Err t)). absurd (fails-shown (reads between d.slots) (to_target d.slots ds) w.0 w.1 (none (target_fault between ds d.slots) refl)))
          (taking-of (target_taken between ds d.slots)) where
            none : (o : Option Fault) → target_fault between ds d.slots ≡ o → o ≡ None
            none None e = refl
            none (Some f) e = absurd (well f (in-somes (λ (z : Contribution). target_fault between ds z.slots) ds d f i e))

      pub value-is : (slot : Slot) → value_after between ds slot ≡ value_after r (cs ++ ds) slot
      value-is slot = ⊎_elim (λ (away : Away slot ds). first-alone away) (λ (w : Reaches slot ds). in-second w) (reaches? slot ds) where
        -- the value of a slot by its target and what was taken there
        value-by : (s : Store) (xs : List Contribution) (tgt : List Slot) (v : List Value) → target_of slot xs ≡ tgt → target_taken s xs tgt ≡ Ok v → value_after s xs slot ≡ value_among slot tgt v (read s slot)
        value-by s xs tgt v e f =
            ap (λ z. value_among slot z (values_or (reads s z) (target_taken s xs z)) (read s slot)) e ∙ ap (λ a. value_among slot tgt (values_or (reads s tgt) a) (read s slot)) f

        in-second : Reaches slot ds → value_after between ds slot ≡ value_after r (cs ++ ds) slot
        in-second w =
            let d = w.by in
            let j = in-back d cs ds w.among in
            let u = second-well d w.among in
            let t = first-well d j in
            let whole : target_taken r (cs ++ ds) d.slots ≡ Ok u.0 = goes-on d.slots (given? d j d.slots refl) t.0 t.1 ∙ u.1 in
            value-by between ds d.slots u.0 (target_of-found slot ds one-second d w.among w.has) u.1
            ∙ among-any slot d.slots u.0 (read between slot) (read r slot) w.has (taken-length between d.slots (to_target d.slots ds) u.0 u.1)
            ∙ sym (value-by r (cs ++ ds) d.slots u.0 (target_of-found slot (cs ++ ds) one d j w.has) whole)

        first-alone : Away slot ds → value_after between ds slot ≡ value_after r (cs ++ ds) slot
        first-alone away = value-away between slot ds away ∙ read-settled r cs slot ∙ ⊎_elim (λ (none : Away slot cs). nowhere none) (λ (w : Reaches slot cs). in-first w) (reaches? slot cs) where
          nowhere : Away slot cs → value_after r cs slot ≡ value_after r (cs ++ ds) slot
          nowhere none =
              value-away r slot cs none
              ∙ sym (value-away r slot (cs ++ ds) (λ c i. ⊎_elim (λ (j : IsIn c cs). none c j) (λ (j : IsIn c ds). away c j) (in-parts c cs ds i)))

          in-first : Reaches slot cs → value_after r cs slot ≡ value_after r (cs ++ ds) slot
          in-first w =
              let c = w.by in
              let i = in-front c cs ds w.among in
              let t = first-well c i in
              let only : to_target c.slots (cs ++ ds) ≡ to_target c.slots cs =
              to-both c.slots ∙ ap (λ l. to_target c.slots cs ++ l) (nothing-to slot c.slots ds w.has away) ∙ append-nil (to_target c.slots cs) in
              value-by r cs c.slots t.0 (target_of-found slot cs one-first c w.among w.has) t.1
              ∙ sym (value-by r (cs ++ ds) c.slots t.0 (target_of-found slot (cs ++ ds) one c i w.has) (ap (taken_onto (reads r c.slots)) only ∙ t.1))
