-- The contributions for which all running totals stand, and what closing a target's totals gives.
use Rattle.std.specs.Prelude.{◌≡◌, ◌<◌, ℕ, List, [], ◌∷◌, map, Option, Some, None, All, if◌then◌else◌, length, slice_index_or}
use Rattle.std.specs.Map.{lookup, keys_of}
use Rattle.gm_value.specs.declared.values.Value.{Value}
use Rattle.gm_semantics.specs.declared.faults.Fault.{Fault}
use Rattle.gm_semantics.specs.declared.slots.Slot.{Slot}
use Rattle.gm_semantics.specs.declared.slots.Write.{Write}
use Rattle.gm_semantics.specs.Stores.{Store, slots_eq, has_slot, read, reads, overlaid}
use Rattle.gm_semantics.specs.Faults.{lesser, least}
use Rattle.gm_semantics.specs.Contributions.{Contribution, to_target, target_taken, values_or, value_among, target_fault, settled_store, total_faults}
use Rattle.gm_store.specs.Held.{Held, Shape, HasSlot, store_of}
use Rattle.gm_totals.specs.declared.pots.Pot.{Pot}
use Rattle.gm_totals.specs.declared.totals.Totals.{Totals}
use Rattle.gm_totals.specs.declared.totals.Closed.{Closed}
use Rattle.gm_totals.specs.Given.{slots_in, is_several}
use Rattle.gm_totals.specs.Places.{place_at, head_of}
use Rattle.gm_totals.specs.Pots.{TargetStands, PotStands}

-- the pots by their targets, in the order in which the targets had their first contributions
abbrev pub keyed : Totals → List (List Slot × Pot)
keyed totals = map (λ e. (slots_in e.0, e.1)) totals.pots.items

-- the pot of a target
abbrev pub pot_at : Totals → List Slot → Option Pot
pot_at totals slots = lookup (slots_eq slots) (keyed totals)

-- the targets that have pots, in the order of the pots
abbrev pub targets_of : Totals → List (List Slot)
targets_of totals = keys_of (keyed totals)

-- the pot at a place is that of a target
abbrev pub IsPotOf : Totals → List Slot → ℕ → Type 0
IsPotOf totals slots place = (place < length (targets_of totals)) × ((d : List Slot) → slice_index_or (targets_of totals) place d ≡ slots)

-- the pot at a slot's place is that of a target that begins with the slot
abbrev pub IsHead : Totals → Slot → Type 0
IsHead totals slot =
    (place_at totals.places slot < length (targets_of totals)) × ((d : List Slot) → head_of (slice_index_or (targets_of totals) (place_at totals.places slot) d) ≡ slot)

-- a target has one pot, and where it has one, a pot is at the place of its first slot
pub record ArePlaced (totals : Totals) : Type 0 where
  pub apart : (slots : List Slot) (j k : ℕ) → IsPotOf totals slots j → IsPotOf totals slots k → j ≡ k
  pub heads : (slots : List Slot) (k : ℕ) → IsPotOf totals slots k → IsHead totals (head_of slots)

-- the first of some targets that has a slot
abbrev pub first_with : Slot → List (List Slot) → Option (List Slot)
first_with slot [] = None
first_with slot (t ∷ ts) = if has_slot slot t then Some t else first_with slot ts

-- totals stand for contributions, in the order in which they were given: each target's pot for those to the target, and each slot belongs to the target that had it first
pub record StandsFor (totals : Totals) (cs : List Contribution) : Type 0 where
  pub stands : (slots : List Slot) → TargetStands (is_several slots) (pot_at totals slots) (to_target slots cs)
  pub owners : (slot : Slot) → first_with slot (targets_of totals) ≡ first_with slot (map (λ c. c.slots) cs)
  pub placed : ArePlaced totals

-- the slots of totals are those of a store of a shape
abbrev pub Within : Shape → Totals → Type 0
Within shape totals = (slots : List Slot) (pot : Pot) → pot_at totals slots ≡ Some pot → All (HasSlot shape) slots

-- the lesser of what may be faults
abbrev pub least_with : Option Fault → Option Fault → Option Fault
least_with None o = o
least_with (Some f) o = lesser f o

-- with more writes some slots hold values, of which the first for a slot counts, and the others what they held
abbrev pub Sets : List Slot → List Value → List Write → List Write → Type 0
Sets slots values old new = (s : Store) (slot : Slot) → read (overlaid s new) slot ≡ value_among slot slots values (read (overlaid s old) slot)

-- a target's totals are closed: whatever was written before, its slots now hold what the taking leaves them, and the fault counts
abbrev pub ClosesTarget : Held → List Slot → Pot → Closed → Closed → Type 0
ClosesTarget held slots pot old new =
    (edge : ℕ → ℕ → Value) (cs : List Contribution) → PotStands (is_several slots) pot (to_target slots cs)
    → Sets slots (values_or (reads (store_of edge held) slots) (target_taken (store_of edge held) cs slots)) old.writes.items new.writes.items
    × (new.fault ≡ least_with (target_fault (store_of edge held) cs slots) old.fault)

-- the writes are to slots of a store of a shape
abbrev pub WritesWithin : Shape → Closed → Type 0
WritesWithin shape closed = All (λ w. HasSlot shape w.slot) closed.writes.items

-- what totals close to settles whatever contributions they stand for: the writes give the store after them, and the fault is the least of their totals
pub record Settles (held : Held) (totals : Totals) (closed : Closed) : Type 0 where
  pub store : (edge : ℕ → ℕ → Value) (cs : List Contribution) → StandsFor totals cs → overlaid (store_of edge held) closed.writes.items ≡ settled_store (store_of edge held) cs
  pub fault : (edge : ℕ → ℕ → Value) (cs : List Contribution) → StandsFor totals cs → closed.fault ≡ least (total_faults (store_of edge held) cs)
