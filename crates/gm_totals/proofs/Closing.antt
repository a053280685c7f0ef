-- All pots closed one after another, the last one first.
use Rattle.std.proofs.Common.{◌≡◌, ℕ, ◌+◌, zero, suc, ◌<◌, ◌≤◌, Bool, true, false, cond, List, [], ◌∷◌, map, drop, length, get_or, arith, refl, sym, ap, subst, ◌∙◌, Option, Some, None, Result, ⊎_elim, inl, inr}
use Rattle.std.specs.Prelude.{◌⊎◌, All}
use Rattle.std.specs.Map.{lookup, keys_of}
use Rattle.std.proofs.lemmas.Bool.{cases_Bool}
use Rattle.std.proofs.lemmas.List.Elements.{All-nil}
use Rattle.gm_value.specs.declared.values.Value.{Value}
use Rattle.gm_value.specs.Bag.{IsIn}
use Rattle.gm_semantics.specs.declared.faults.Fault.{Fault}
use Rattle.gm_semantics.specs.declared.slots.Slot.{Slot}
use Rattle.gm_semantics.specs.declared.slots.Write.{Write}
use Rattle.gm_semantics.specs.Stores.{Store, slots_eq, has_slot, read, reads, overlaid}
use Rattle.gm_semantics.specs.Faults.{least, somes, fault_of}
use Rattle.gm_semantics.specs.Contributions.{Contribution, to_target, target_fault, target_taken, values_or, value_among, settled_store}
use Rattle.gm_store.specs.Held.{Held, HasSlot, held_at, store_of, shape_of}
use Rattle.gm_totals.specs.declared.pots.Pot.{Pot}
use Rattle.gm_totals.specs.declared.totals.Totals.{Totals}
use Rattle.gm_totals.specs.declared.totals.Closed.{Closed}
use Rattle.gm_totals.specs.Given.{is_several}
use Rattle.gm_totals.specs.Pots.{TargetStands, PotStands, IsTaking, kept_values}
use Rattle.gm_totals.specs.Standing.{keyed, pot_at, targets_of, IsPotOf, StandsFor, least_with, ClosesTarget, Sets, WritesWithin, Settles}
use Rattle.gm_totals.proofs.Keys.{slots_eq-itself, slots_eq-same, lookup-first}
use Rattle.gm_totals.proofs.Owners.{value_from, from-targets}
use Rattle.gm_totals.proofs.Settling.{HasAll, own-some, store-same, read-settled, edge-overlaid, values-length, among-has, faults-settle, reads-held}
use Rattle.gm_totals.proofs.Tuples.{drop-here, drop-past}
use Rattle.gm_totals.proofs.Placing.{get-key, length-keys, placed-first}

-- a key that a look-up finds is one of the keys
pub lookup-in : {X : Type 0} (slot : List Slot) (es : List (List Slot × X)) (x : X) → lookup (slots_eq slot) es ≡ Some x → IsIn slot (keys_of es)
lookup-in slot [] x e = absurd (apart e)
  where
    apart : None ≡ Some x → ⊥
    apart h = cc
lookup-in slot (p ∷ es) x e =
    ⊎_elim
    (λ (same : slots_eq slot p.0 ≡ true). inl (slots_eq-same slot p.0 same))
    (λ (other : slots_eq slot p.0 ≡ false). inr (lookup-in slot es x (sym (ap (λ b. cond b (Some p.1) (lookup (slots_eq slot) es)) other) ∙ e)))
    (cases_Bool (slots_eq slot p.0))

-- the targets of all pots are those that have contributions
pub has_all : (totals : Totals) (cs : List Contribution) → StandsFor totals cs → HasAll cs (targets_of totals)
has_all totals cs stands slots = by (pot_at totals slots) refl (stands.stands slots)
  where
    by : (o : Option Pot) → pot_at totals slots ≡ o → TargetStands (is_several slots) o (to_target slots cs) → IsIn slots (targets_of totals) ⊎ (to_target slots cs ≡ [])
    by None e is = inr is
    by (Some pot) e is = inl (lookup-in slots (keyed totals) pot e)

-- a pot that a look-up finds stands for its target's contributions
pub pot_stands : (totals : Totals) (cs : List Contribution) (slots : List Slot) (pot : Pot) → pot_at totals slots ≡ Some pot → StandsFor totals cs
    → PotStands (is_several slots) pot (to_target slots cs)
pot_stands totals cs slots pot is stands = subst (λ o. TargetStands (is_several slots) o (to_target slots cs)) is (stands.stands slots)

-- one more fault before some
least_some : (o : Option Fault) (os : List (Option Fault)) → least (somes (o ∷ os)) ≡ least_with o (least (somes os))
least_some None os = refl
least_some (Some f) os = refl

-- some targets are closed: their slots hold what the first one leaves them, and the fault is the least of theirs
pub record AreClosed (s : Store) (cs : List Contribution) (ts : List (List Slot)) (closed : Closed) : Type 0 where
  pub writes : (slot : Slot) → read (overlaid s closed.writes.items) slot ≡ value_from s cs slot ts
  pub fault : closed.fault ≡ least (somes (map (target_fault s cs) ts))

-- the targets from a number on are closed
pub record AreLast (held : Held) (totals : Totals) (n : ℕ) (closed : Closed) : Type 0 where
  pub targets : (edge : ℕ → ℕ → Value) (cs : List Contribution) → StandsFor totals cs → AreClosed (store_of edge held) cs (drop n (targets_of totals)) closed
  pub within : WritesWithin (shape_of held) closed

-- one target more
pub closed-more : (held : Held) (edge : ℕ → ℕ → Value) (cs : List Contribution) (ts : List (List Slot)) (slots : List Slot) (pot : Pot) (old new : Closed)
    → AreClosed (store_of edge held) cs ts old → ClosesTarget held slots pot old new → PotStands (is_several slots) pot (to_target slots cs)
    → AreClosed (store_of edge held) cs (slots ∷ ts) new
closed-more held edge cs ts slots pot old new are closes stands =
    let s = store_of edge held in
    let step = closes edge cs stands in
    let values = values_or (reads s slots) (target_taken s cs slots) in
    record {
      writes = λ slot.
          step.0 s slot ∙ among-has slot slots values (read (overlaid s old.writes.items) slot) (read s slot) (values-length s cs slots)
          ∙ ap (cond (has_slot slot slots) (value_among slot slots values (read s slot))) (are.writes slot);
      fault = step.1 ∙ ap (least_with (target_fault s cs slots)) are.fault ∙ sym (least_some (target_fault s cs slots) (map (target_fault s cs) ts));
    }

-- totals have no pot where they stand for no contribution
pub no_pots : (totals : Totals) (cs : List Contribution) → StandsFor totals cs → (keyed totals ≡ [] → cs ≡ []) × (cs ≡ [] → keyed totals ≡ [])
no_pots totals cs stands = (λ none. nothing cs (subst (λ es. HasAll cs (keys_of es)) none (has_all totals cs stands)), λ none. by (keyed totals) none stands.stands)
  where
    nothing : (ds : List Contribution) → HasAll ds [] → ds ≡ []
    nothing [] all = refl
    nothing (d ∷ ds) all = ⊎_elim (λ (h : IsIn d.slots []). absurd h) (λ (e : to_target d.slots (d ∷ ds) ≡ []). absurd (own-some d (d ∷ ds) (inl refl) e)) (all d.slots)

    by : (es : List (List Slot × Pot)) → cs ≡ [] → ((slots : List Slot) → TargetStands (is_several slots) (lookup (slots_eq slots) es) (to_target slots cs)) → es ≡ []
    by [] none all = refl
    by (e ∷ es) none all =
        let found : TargetStands (is_several e.0) (Some e.1) (to_target e.0 cs) = subst (λ b. TargetStands (is_several e.0) (cond b (Some e.1) (lookup (slots_eq e.0) es)) (to_target e.0 cs)) (slots_eq-itself e.0) (all e.0) in
        let empty : PotStands (is_several e.0) e.1 [] = subst (λ (l : List Contribution). PotStands (is_several e.0) e.1 (to_target e.0 l)) none found in
        absurd empty.reduce

-- the pot at a place is that of its target
pub pot-of : (totals : Totals) (i : ℕ) (p : List Slot × Pot) → i < length (keyed totals) → IsPotOf totals (get_or (keyed totals) i p).0 i
pot-of totals i p h = (omega (arith, h, length-keys (keyed totals)), λ d. get-key (keyed totals) i d p h)

-- nothing is closed yet
pub closed-none : (held : Held) (totals : Totals) (n : ℕ) (closed : Closed) → length (keyed totals) ≤ n → closed.writes.items ≡ [] → closed.fault ≡ None → AreLast held totals n closed
closed-none held totals n closed past writes fault =
    let behind : drop n (targets_of totals) ≡ [] = drop-past (targets_of totals) n (omega (arith, past, length-keys (keyed totals))) in
    record {
      targets = λ edge cs stands. subst (λ ts. AreClosed (store_of edge held) cs ts closed) (sym behind) (record { writes = λ slot. ap (λ ws. read (overlaid (store_of edge held) ws) slot) writes; fault = fault });
      within = subst (All (λ (w : Write). HasSlot (shape_of held) w.slot)) (sym writes) (All-nil (λ (w : Write). HasSlot (shape_of held) w.slot));
    }

-- what is found among entries is found behind one more
found-behind : {X : Type 0} (q : List Slot) (e : List Slot × X) (es : List (List Slot × X)) → (x : X) × (lookup (slots_eq q) es ≡ Some x) → (x : X) × (lookup (slots_eq q) (e ∷ es) ≡ Some x)
found-behind {X} q e es rest = by (slots_eq q e.0) refl
  where
    by : (b : Bool) → slots_eq q e.0 ≡ b → (x : X) × (lookup (slots_eq q) (e ∷ es) ≡ Some x)
    by true is = (e.1, ap (λ b. cond b (Some e.1) (lookup (slots_eq q) es)) is)
    by false is = (rest.0, ap (λ b. cond b (Some e.1) (lookup (slots_eq q) es)) is ∙ rest.1)

-- the slot of a pot has one
pub has-pot : {X : Type 0} (es : List (List Slot × X)) (i : ℕ) (p : List Slot × X) → i < length es → (x : X) × (lookup (slots_eq (get_or es i p).0) es ≡ Some x)
has-pot [] i p h = absurd (empty (omega (arith, h)))
  where
    empty : ⊥ → ⊥
    empty e = e
has-pot (e ∷ es) zero p h = (e.1, ap (λ b. cond b (Some e.1) (lookup (slots_eq e.0) es)) (slots_eq-itself e.0))
has-pot (e ∷ es) (suc i) p h = let less : i < length es = omega (arith, h) in found-behind (get_or es i p).0 e es (has-pot es i p less)

-- the next target of totals is closed
pub targets-next : (held : Held) (totals : Totals) (i : ℕ) (p : List Slot × Pot) (old new : Closed) → i < length (keyed totals) → AreLast held totals (i + 1) old
    → ClosesTarget held (get_or (keyed totals) i p).0 (get_or (keyed totals) i p).1 old new
    → (WritesWithin (shape_of held) old → WritesWithin (shape_of held) new) → AreLast held totals i new
targets-next held totals i p old new h are closes within =
    let slots = (get_or (keyed totals) i p).0 in
    let at = pot-of totals i p h in
    let longer : drop i (targets_of totals) ≡ slots ∷ drop (i + 1) (targets_of totals) = drop-here (targets_of totals) i slots at.0 ∙ ap (λ k. k ∷ drop (i + 1) (targets_of totals)) (at.1 slots) in
    record {
      targets = λ edge cs stands.
          let found : pot_at totals slots ≡ Some (get_or (keyed totals) i p).1 = lookup-first slots (keyed totals) i p (placed-first totals stands.placed slots i at) in
          subst (λ ts. AreClosed (store_of edge held) cs ts new) (sym longer)
          (closed-more held edge cs (drop (i + 1) (targets_of totals)) slots (get_or (keyed totals) i p).1 old new (are.targets edge cs stands) closes
          (pot_stands totals cs slots (get_or (keyed totals) i p).1 found stands));
      within = within are.within;
    }

-- all targets of totals are closed
pub all-settled : (held : Held) (totals : Totals) (closed : Closed) → AreLast held totals 0 closed → Settles held totals closed
all-settled held totals closed are =
    let keys = targets_of totals in
    record {
      store = λ edge cs stands.
          let s = store_of edge held in
          store-same (overlaid s closed.writes.items) (settled_store s cs)
          (λ slot. (are.targets edge cs stands).writes slot ∙ from-targets s cs slot keys (stands.owners slot) ∙ sym (read-settled s cs slot))
          (edge-overlaid s closed.writes.items);
      fault = λ edge cs stands. let s = store_of edge held in (are.targets edge cs stands).fault ∙ faults-settle s cs keys (has_all totals cs stands);
    }

-- a target is closed by what a taking of its contributions answers
pub closes-by : (held : Held) (slots : List Slot) (pot : Pot) (old new : Closed) (answer : Result (List Value) Fault) (hs : List Value) → hs ≡ map (held_at held) slots
    → ((cs : List Contribution) → PotStands (is_several slots) pot cs → IsTaking hs cs answer) → Sets slots (kept_values hs answer) old.writes.items new.writes.items
    → new.fault ≡ least_with (fault_of answer) old.fault → ClosesTarget held slots pot old new
closes-by held slots pot old new answer hs is takes sets fault edge cs stands =
    let s = store_of edge held in
    let same : hs ≡ reads s slots = is ∙ sym (reads-held edge held slots) in
    let taking : IsTaking (reads s slots) (to_target slots cs) answer = subst (λ (l : List Value). IsTaking l (to_target slots cs) answer) same (takes (to_target slots cs) stands) in
    let all : Sets slots (kept_values (reads s slots) answer) old.writes.items new.writes.items = subst (λ (l : List Value). Sets slots (kept_values l answer) old.writes.items new.writes.items) same sets in (
      subst (λ (vs : List Value). Sets slots vs old.writes.items new.writes.items) (sym taking.values) all,
      fault ∙ ap (λ (o : Option Fault). least_with o old.fault) (sym taking.fault),
    )
