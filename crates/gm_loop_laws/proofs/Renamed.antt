-- What is taken under another name for a local.
use Rattle.std.proofs.Common.{◌≡◌, ◌<◌, ◌≤◌, arith, ℕ, zero, suc, Bool, true, false, cond, List, [], ◌∷◌, map, refl, sym, ap, ◌∙◌, Result, Ok, Err}
use Rattle.std.specs.Prelude.{◌&&◌, ◌||◌, nat_eq, max}
use Rattle.std.proofs.lemmas.Bool.{eq-eqb, eqb-true, ne_eqb, both_ways}
use Rattle.gm_value.specs.declared.values.Value.{Value}
use Rattle.gm_value.specs.declared.reductions.Reduce.{Reduce}
use Rattle.gm_value.specs.Taking.{at_rank, of_rank, then_take, taken_bag, taken}
use Rattle.gm_value.specs.Tuples.{close_slots}
use Rattle.gm_semantics.specs.declared.slots.Slot.{Slot}
use Rattle.gm_semantics.specs.declared.slots.Slot.TheVariants.{Scalar, Node}
use Rattle.gm_semantics.specs.Stores.{Store, slot_eq, slots_eq, has_slot, read, reads, write, write_all}
use Rattle.gm_semantics.specs.Faults.{least, somes, total_fault}
use Rattle.gm_semantics.specs.Contributions.{Contribution, statement_of, to_target, target_of, close_by, statement_bound, taken_onto, values_or, fault_in, value_among, value_after, target_fault, target_taken, settled_store, total_faults}
use Rattle.gm_semantics.specs.Frames.{SlotBelow, SlotsBelow, GivesBelow}
use Rattle.gm_semantics.proofs.TargetLaws.{read-settled}
use Rattle.gm_forms.proofs.ReadingFrames.{read-write}

module _ (j x q k : ℕ) (fresh : j ≤ q) where
  -- the slot of the local is that of the property at the node
  abbrev pub ren : Slot → Slot
  ren (Scalar y) = cond (nat_eq y x) (Node q k) (Scalar y)
  ren (Node p m) = Node p m

  abbrev pub renamed : Contribution → Contribution
  renamed c = record c { slots = map ren c.slots }

  other-node : (p m : ℕ) → p < j → nat_eq q p && nat_eq k m ≡ false
  other-node p m b = ap (λ c. c && nat_eq k m) (ne_eqb q p (λ e. omega arith))

  other-node' : (p m : ℕ) → p < j → nat_eq p q && nat_eq m k ≡ false
  other-node' p m b = ap (λ c. c && nat_eq m k) (ne_eqb p q (λ e. omega arith))

  pub ren-eq : (a b : Slot) → SlotBelow j a → SlotBelow j b → slot_eq (ren a) (ren b) ≡ slot_eq a b
  ren-eq (Scalar y) (Scalar z) a b = by (nat_eq y x) (nat_eq z x) refl refl
    where
      by : (c d : Bool) → nat_eq y x ≡ c → nat_eq z x ≡ d → slot_eq (cond c (Node q k) (Scalar y)) (cond d (Node q k) (Scalar z)) ≡ nat_eq y z
      by true true e f = ap (λ o. o && nat_eq k k) (eq-eqb q q refl) ∙ eq-eqb k k refl ∙ sym (eq-eqb y z (eqb-true y x e ∙ sym (eqb-true z x f)))
      by true false e f = sym (ne_eqb y z (λ h. both_ways (nat_eq z x) f (eq-eqb z x (sym h ∙ eqb-true y x e))))
      by false true e f = sym (ne_eqb y z (λ h. both_ways (nat_eq y x) e (eq-eqb y x (h ∙ eqb-true z x f))))
      by false false e f = refl
  ren-eq (Scalar y) (Node p m) a b = by (nat_eq y x)
    where
      by : (c : Bool) → slot_eq (cond c (Node q k) (Scalar y)) (Node p m) ≡ false
      by true = other-node p m b
      by false = refl
  ren-eq (Node p m) (Scalar y) a b = by (nat_eq y x)
    where
      by : (c : Bool) → slot_eq (Node p m) (cond c (Node q k) (Scalar y)) ≡ false
      by true = other-node' p m a
      by false = refl
  ren-eq (Node p m) (Node r l) a b = refl

  pub has-ren : (a : Slot) (ss : List Slot) → SlotBelow j a → SlotsBelow j ss → has_slot (ren a) (map ren ss) ≡ has_slot a ss
  has-ren a [] b bs = refl
  has-ren a (s ∷ ss) b bs = ap (λ c. c || has_slot (ren a) (map ren ss)) (ren-eq a s b bs.0) ∙ ap (λ c. slot_eq a s || c) (has-ren a ss b bs.1)

  slots-ren : (ss ts : List Slot) → SlotsBelow j ss → SlotsBelow j ts → slots_eq (map ren ss) (map ren ts) ≡ slots_eq ss ts
  slots-ren [] [] b c = refl
  slots-ren [] (t ∷ ts) b c = refl
  slots-ren (s ∷ ss) [] b c = refl
  slots-ren (s ∷ ss) (t ∷ ts) b c = ap (λ o. o && slots_eq (map ren ss) (map ren ts)) (ren-eq s t b.0 c.0) ∙ ap (λ o. slot_eq s t && o) (slots-ren ss ts b.1 c.1)

  to_target-ren : (ss : List Slot) (cs : List Contribution) → SlotsBelow j ss → GivesBelow j cs → to_target (map ren ss) (map renamed cs) ≡ map renamed (to_target ss cs)
  to_target-ren ss [] b g = refl
  to_target-ren ss (c ∷ cs) b g =
      ap (λ o. cond o (renamed c ∷ to_target (map ren ss) (map renamed cs)) (to_target (map ren ss) (map renamed cs))) (slots-ren ss c.slots b g.0)
      ∙ ap (λ l. cond (slots_eq ss c.slots) (renamed c ∷ l) l) (to_target-ren ss cs b g.1) ∙ by (slots_eq ss c.slots)
    where
      by : (o : Bool) → cond o (renamed c ∷ map renamed (to_target ss cs)) (map renamed (to_target ss cs)) ≡ map renamed (cond o (c ∷ to_target ss cs) (to_target ss cs))
      by true = refl
      by false = refl

  target_of-ren : (a : Slot) (cs : List Contribution) → SlotBelow j a → GivesBelow j cs → target_of (ren a) (map renamed cs) ≡ map ren (target_of a cs)
  target_of-ren a [] b g = refl
  target_of-ren a (c ∷ cs) b g =
      ap (λ o. cond o (map ren c.slots) (target_of (ren a) (map renamed cs))) (has-ren a c.slots b g.0)
      ∙ ap (λ l. cond (has_slot a c.slots) (map ren c.slots) l) (target_of-ren a cs b g.1) ∙ by (has_slot a c.slots)
    where
      by : (o : Bool) → cond o (map ren c.slots) (map ren (target_of a cs)) ≡ map ren (cond o c.slots (target_of a cs))
      by true = refl
      by false = refl

  target-below : (a : Slot) (cs : List Contribution) → SlotBelow j a → GivesBelow j cs → SlotsBelow j (target_of a cs)
  target-below a [] b g = (b, tt)
  target-below a (c ∷ cs) b g = by (has_slot a c.slots) (target-below a cs b g.1)
    where
      by : (o : Bool) → SlotsBelow j (target_of a cs) → SlotsBelow j (cond o c.slots (target_of a cs))
      by true h = g.0
      by false h = h

  -- takings do not ask for slots
  values-ren : (cs : List Contribution) → map (λ (c : Contribution). c.values) (map renamed cs) ≡ map (λ (c : Contribution). c.values) cs
  values-ren [] = refl
  values-ren (c ∷ cs) = ap (λ l. c.values ∷ l) (values-ren cs)

  rank-ren : (s : ℕ) (cs : List Contribution) → of_rank statement_of s (map renamed cs) ≡ map renamed (of_rank statement_of s cs)
  rank-ren s [] = refl
  rank-ren s (c ∷ cs) = ap (λ l. cond (nat_eq (statement_of c) s) (renamed c ∷ l) l) (rank-ren s cs) ∙ by (nat_eq (statement_of c) s)
    where
      by : (o : Bool) → cond o (renamed c ∷ map renamed (of_rank statement_of s cs)) (map renamed (of_rank statement_of s cs)) ≡ map renamed (cond o (c ∷ of_rank statement_of s cs) (of_rank statement_of s cs))
      by true = refl
      by false = refl

  bag-ren : (r : Reduce) (s : ℕ) (held : List Value) (cs : List Contribution) → taken_bag (close_by r) s held (map renamed cs) ≡ taken_bag (close_by r) s held cs
  bag-ren r s held [] = refl
  bag-ren r s held (c ∷ cs) = ap (λ l. at_rank s (close_slots r held (c.values ∷ l))) (values-ren cs)

  taken-ren : (r : Reduce) (n : ℕ) (held : List Value) (cs : List Contribution) → taken statement_of (close_by r) n held (map renamed cs) ≡ taken statement_of (close_by r) n held cs
  taken-ren r zero held cs = refl
  taken-ren r (suc n) held cs =
      ap (λ o. then_take o (λ v. taken_bag (close_by r) n v (of_rank statement_of n (map renamed cs)))) (taken-ren r n held cs)
      ∙ by (taken statement_of (close_by r) n held cs)
    where
      by : (o : Result (List Value) ℕ) → then_take o (λ v. taken_bag (close_by r) n v (of_rank statement_of n (map renamed cs))) ≡ then_take o (λ v. taken_bag (close_by r) n v (of_rank statement_of n cs))
      by (Ok v) = ap (taken_bag (close_by r) n v) (rank-ren n cs) ∙ bag-ren r n v (of_rank statement_of n cs)
      by (Err s) = refl

  bound-ren : (cs : List Contribution) → statement_bound (map renamed cs) ≡ statement_bound cs
  bound-ren [] = refl
  bound-ren (c ∷ cs) = ap (λ b. max (suc (statement_of c)) b) (bound-ren cs)

  onto-ren : (held : List Value) (cs : List Contribution) → taken_onto held (map renamed cs) ≡ taken_onto held cs
  onto-ren held [] = refl
  onto-ren held (c ∷ cs) =
      ap (λ b. taken statement_of (close_by c.reduce) (max (suc (statement_of c)) b) held (map renamed (c ∷ cs))) (bound-ren cs) ∙ taken-ren c.reduce (statement_bound (c ∷ cs)) held (c ∷ cs)

  shown-ren : (cs : List Contribution) → map (λ (c : Contribution). total_fault c.total) (map renamed cs) ≡ map (λ (c : Contribution). total_fault c.total) cs
  shown-ren [] = refl
  shown-ren (c ∷ cs) = ap (λ l. total_fault c.total ∷ l) (shown-ren cs)

  fault-ren : (cs : List Contribution) (r : Result (List Value) ℕ) → fault_in (map renamed cs) r ≡ fault_in cs r
  fault-ren cs (Ok v) = refl
  fault-ren cs (Err s) = ap (λ l. least (map (λ (c : Contribution). total_fault c.total) l)) (rank-ren s cs) ∙ ap least (shown-ren (of_rank statement_of s cs))

  -- stores that hold the same under both names
  abbrev pub Shows : Store → Store → Type 0
  Shows s t = (slot : Slot) → SlotBelow j slot → read t (ren slot) ≡ read s slot

  pub shows-write : (s t : Store) (slot : Slot) (v : Value) → SlotBelow j slot → Shows s t → Shows (write s slot v) (write t (ren slot) v)
  shows-write s t slot v b h a c =
      read-write t (ren slot) (ren a) v ∙ ap (λ o. cond o v (read t (ren a))) (ren-eq slot a b c) ∙ ap (λ z. cond (slot_eq slot a) v z) (h a c) ∙ sym (read-write s slot a v)

  pub shows-write_all : (s t : Store) (ss : List Slot) (vs : List Value) → SlotsBelow j ss → Shows s t → Shows (write_all s ss vs) (write_all t (map ren ss) vs)
  shows-write_all s t [] vs b h = h
  shows-write_all s t (a ∷ ss) [] b h = h
  shows-write_all s t (a ∷ ss) (v ∷ vs) b h = shows-write_all (write s a v) (write t (ren a) v) ss vs b.1 (shows-write s t a v b.0 h)

  module _ (s t : Store) (h : Shows s t) where
    reads-ren : (ss : List Slot) → SlotsBelow j ss → reads t (map ren ss) ≡ reads s ss
    reads-ren [] b = refl
    reads-ren (a ∷ ss) b = ap (λ v. v ∷ reads t (map ren ss)) (h a b.0) ∙ ap (λ vs. read s a ∷ vs) (reads-ren ss b.1)

    among-ren : (a : Slot) (ss : List Slot) (vs : List Value) (o : Value) → SlotBelow j a → SlotsBelow j ss → value_among (ren a) (map ren ss) vs o ≡ value_among a ss vs o
    among-ren a [] vs o b bs = refl
    among-ren a (s ∷ ss) [] o b bs = refl
    among-ren a (s ∷ ss) (v ∷ vs) o b bs = ap (λ c. cond c v (value_among (ren a) (map ren ss) vs o)) (ren-eq a s b bs.0) ∙ ap (λ z. cond (slot_eq a s) v z) (among-ren a ss vs o b bs.1)

    module _ (cs : List Contribution) (g : GivesBelow j cs) where
      target_taken-ren : (ss : List Slot) → SlotsBelow j ss → target_taken t (map renamed cs) (map ren ss) ≡ target_taken s cs ss
      target_taken-ren ss b = ap (λ vs. taken_onto vs (to_target (map ren ss) (map renamed cs))) (reads-ren ss b) ∙ ap (taken_onto (reads s ss)) (to_target-ren ss cs b g) ∙ onto-ren (reads s ss) (to_target ss cs)

      value-ren : (a : Slot) → SlotBelow j a → value_after t (map renamed cs) (ren a) ≡ value_after s cs a
      value-ren a b =
          let ss = target_of a cs in
          let bs = target-below a cs b g in
          ap (λ l. value_among (ren a) l (values_or (reads t l) (target_taken t (map renamed cs) l)) (read t (ren a))) (target_of-ren a cs b g)
          ∙ ap (λ vs. value_among (ren a) (map ren ss) (values_or vs (target_taken t (map renamed cs) (map ren ss))) (read t (ren a))) (reads-ren ss bs)
          ∙ ap (λ r. value_among (ren a) (map ren ss) (values_or (reads s ss) r) (read t (ren a))) (target_taken-ren ss bs)
          ∙ ap (value_among (ren a) (map ren ss) (values_or (reads s ss) (target_taken s cs ss))) (h a b)
          ∙ among-ren a ss (values_or (reads s ss) (target_taken s cs ss)) (read s a) b bs

      pub shows-settled : Shows (settled_store s cs) (settled_store t (map renamed cs))
      shows-settled a b = read-settled t (map renamed cs) (ren a) ∙ value-ren a b ∙ sym (read-settled s cs a)

      target_fault-ren : (ss : List Slot) → SlotsBelow j ss → target_fault t (map renamed cs) (map ren ss) ≡ target_fault s cs ss
      target_fault-ren ss b =
          ap (fault_in (to_target (map ren ss) (map renamed cs))) (target_taken-ren ss b) ∙ ap (λ l. fault_in l (target_taken s cs ss)) (to_target-ren ss cs b g) ∙ fault-ren (to_target ss cs) (target_taken s cs ss)

      each-fault : (ds : List Contribution) → GivesBelow j ds → map (λ (c : Contribution). target_fault t (map renamed cs) c.slots) (map renamed ds) ≡ map (λ (c : Contribution). target_fault s cs c.slots) ds
      each-fault [] b = refl
      each-fault (d ∷ ds) b = ap (λ o. o ∷ map (λ (c : Contribution). target_fault t (map renamed cs) c.slots) (map renamed ds)) (target_fault-ren d.slots b.0) ∙ ap (λ l. target_fault s cs d.slots ∷ l) (each-fault ds b.1)

      pub totals-ren : total_faults t (map renamed cs) ≡ total_faults s cs
      totals-ren = ap somes (each-fault cs g)
