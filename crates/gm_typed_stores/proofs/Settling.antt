-- What is left after contributions keeps its types.
use Rattle.std.proofs.Common.{◌≡◌, ℕ, true, List, [], ◌∷◌, map, sym, subst, Result, Ok, Err, IfOk}
use Rattle.gm_value.specs.declared.values.VType.{VType}
use Rattle.gm_value.specs.declared.values.Value.{Value}
use Rattle.gm_semantics.specs.declared.slots.Slot.{Slot}
use Rattle.gm_semantics.specs.declared.slots.Slot.TheVariants.{Scalar, Node}
use Rattle.gm_semantics.specs.Stores.{Store, slot_eq, slots_eq, has_slot, read, reads}
use Rattle.gm_semantics.specs.Contributions.{Contribution, statement_of, to_target, target_of, close_by, statement_bound, taken_onto, values_or, target_taken, value_among, value_after, settled_store}
use Rattle.gm_semantics.proofs.ContributionLaws.{slot_eq-true, slots_eq-true}
use Rattle.gm_typed_stores.specs.Values.{IsValue, AreValues, Each}
use Rattle.gm_typed_stores.specs.Tells.{TypeTable}
use Rattle.gm_typed_stores.specs.Stores.{IsTypedStore, slot_type, IsDeclared, Reduces, IsTypedContribution}
use Rattle.gm_typed_stores.proofs.Eaches.{each-map, each-weaker, each-filter, if-value}
use Rattle.gm_typed_stores.proofs.Values.{close_slots-values, taken-keeps}
use Rattle.gm_typed_stores.proofs.Kept.{holds-scalar}

module _ (table : TypeTable) where
  abbrev types : List Slot → List VType
  types slots = map (slot_type table) slots

  -- what a slot holds that is declared
  read-value : (its : List ℕ) (s : Store) (slot : Slot) → IsDeclared table slot → IsTypedStore table its s → IsValue table.limit (slot_type table slot) (read s slot)
  read-value its s (Scalar x) d h = h.scalar x (holds-scalar table its x d)
  read-value its s (Node p n) d h = h.node p n d

  -- slots that hold values of their types
  abbrev HoldValues : Store → List Slot → Type 0
  HoldValues s slots = Each (λ x. IsValue table.limit (slot_type table x) (read s x)) slots

  reads-values : (s : Store) (slots : List Slot) → HoldValues s slots → AreValues table.limit (types slots) (reads s slots)
  reads-values s [] h = tt
  reads-values s (x ∷ slots) h = (h.0, reads-values s slots h.1)

  -- a contribution to slots of some types
  record GivesTo (ts : List VType) (c : Contribution) : Type 0 where
    values : AreValues table.limit ts c.values
    reduces : Reduces c.reduce ts

  to_target-gives : (slots : List Slot) (cs : List Contribution) → Each (IsTypedContribution table) cs → Each (GivesTo (types slots)) (to_target slots cs)
  to_target-gives slots cs each =
      each-weaker (λ (c : Contribution). IsTypedContribution table c × (slots_eq slots c.slots ≡ true)) (GivesTo (types slots)) (to_target slots cs)
      (λ c g. let e = slots_eq-true slots c.slots g.1 in
      record {
        values = subst (λ (xs : List Slot). AreValues table.limit (types xs) c.values) (sym e) g.0.values;
        reduces = subst (λ (xs : List Slot). Reduces c.reduce (types xs)) (sym e) g.0.reduces;
      })
      (each-filter (IsTypedContribution table) (λ c. slots_eq slots c.slots) cs each)

  taken-values : (ts : List VType) (held : List Value) (cs : List Contribution) → AreValues table.limit ts held → Each (GivesTo ts) cs → IfOk (taken_onto held cs) (AreValues table.limit ts)
  taken-values ts held [] h each = h
  taken-values ts held (c ∷ cs) h each =
      taken-keeps statement_of (close_by c.reduce) (AreValues table.limit ts) (GivesTo ts)
      (λ held d bag k all. close_slots-values table.limit c.reduce ts held (map (λ (e : Contribution). e.values) (d ∷ bag)) each.0.reduces k
      (each-map (AreValues table.limit ts) (λ (e : Contribution). e.values) (d ∷ bag) (each-weaker (GivesTo ts) (λ (e : Contribution). AreValues table.limit ts e.values) (d ∷ bag) (λ e g. g.values) all)))
      (statement_bound (c ∷ cs)) held (c ∷ cs) h each

  or-values : (ts : List VType) (held : List Value) (r : Result (List Value) ℕ) → AreValues table.limit ts held → IfOk r (AreValues table.limit ts) → AreValues table.limit ts (values_or held r)
  or-values ts held (Ok vs) h k = k
  or-values ts held (Err s) h k = h

  among-value : (slot : Slot) (slots : List Slot) (vs : List Value) (other : Value) → AreValues table.limit (types slots) vs → IsValue table.limit (slot_type table slot) other → IsValue table.limit (slot_type table slot) (value_among slot slots vs other)
  among-value slot [] vs other h k = k
  among-value slot (x ∷ slots) [] other h k = absurd h
  among-value slot (x ∷ slots) (v ∷ vs) other h k =
      if-value (IsValue table.limit (slot_type table slot)) (slot_eq slot x) v (value_among slot slots vs other)
      (λ same. subst (λ (y : Slot). IsValue table.limit (slot_type table y) v) (sym (slot_eq-true slot x same)) h.0)
      (λ apart. among-value slot slots vs other h.1 k)

  -- the slots of a slot's target hold values, where the slot does
  target-values : (its : List ℕ) (s : Store) (slot : Slot) (cs : List Contribution) → IsTypedStore table its s → IsValue table.limit (slot_type table slot) (read s slot) → Each (IsTypedContribution table) cs → HoldValues s (target_of slot cs)
  target-values its s slot [] h d each = (d, tt)
  target-values its s slot (c ∷ cs) h d each =
      if-value (HoldValues s) (has_slot slot c.slots) c.slots (target_of slot cs)
      (λ here. each-weaker (IsDeclared table) (λ x. IsValue table.limit (slot_type table x) (read s x)) c.slots (λ x declared. read-value its s x declared h) each.0.declared)
      (λ apart. target-values its s slot cs h d each.1)

  after-value : (its : List ℕ) (s : Store) (cs : List Contribution) (slot : Slot) → Each (IsTypedContribution table) cs → IsTypedStore table its s → IsValue table.limit (slot_type table slot) (read s slot) → IsValue table.limit (slot_type table slot) (value_after s cs slot)
  after-value its s cs slot each h d =
      let slots = target_of slot cs in
      let held = reads-values s slots (target-values its s slot cs h d each) in
      among-value slot slots (values_or (reads s slots) (target_taken s cs slots)) (read s slot)
      (or-values (types slots) (reads s slots) (target_taken s cs slots) held (taken-values (types slots) (reads s slots) (to_target slots cs) held (to_target-gives slots cs each))) d

  -- a store keeps its types under contributions that have them
  pub settled-values : (its : List ℕ) (s : Store) (cs : List Contribution) → Each (IsTypedContribution table) cs → IsTypedStore table its s → IsTypedStore table its (settled_store s cs)
  settled-values its s cs each h = record {
    scalar = λ x e. after-value its s cs (Scalar x) each h (h.scalar x e);
    node = λ p n e. after-value its s cs (Node p n) each h (h.node p n e);
    edge = h.edge;
  }
