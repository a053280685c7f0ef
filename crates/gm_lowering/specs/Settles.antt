-- What reductions leave when they are taken: the machine's slots hold what the store does, and the least fault is the same.
use Rattle.std.specs.Prelude.{◌≡◌, ◌<◌, ◌≤◌, ◌+◌, ◌⊎◌, ℕ, Bool, true, false, Option, Some, None, List, [], ◌∷◌, length, map}
use Rattle.std.specs.List.{list_all}
use Rattle.gm_value.specs.declared.values.Value.{Value}
use Rattle.gm_value.specs.Bag.{IsIn}
use Rattle.gm_semantics.specs.declared.faults.Fault.{Fault}
use Rattle.gm_semantics.specs.declared.slots.Slot.{Slot}
use Rattle.gm_semantics.specs.Contributions.{Contribution, statement_of, value_after, total_faults}
use Rattle.gm_semantics.specs.Faults.{least}
use Rattle.gm_semantics.specs.Laws.{OneReduction}
use Rattle.gm_semantics.specs.Stores.{Store, read}
use Rattle.gm_image.specs.Parts.{is_among}
use Rattle.gm_machine.specs.declared.faults.Fault as M
use Rattle.gm_machine.specs.Expressions.{value_at}
use Rattle.gm_machine.specs.Taking.{settled}
use Rattle.gm_lowering.specs.Layouts.{Layout}
use Rattle.gm_lowering.specs.Places.{Spot, segment, ascending, place_index, spot_of_total}
use Rattle.gm_lowering.specs.Terms.{Env}
use Rattle.gm_lowering.specs.Showing.{fault_of}
use Rattle.gm_lowering.specs.Sites.{slot_at, given}

-- a spot is among some
abbrev pub HasSpot : Spot → List Spot → Type 0
HasSpot z [] = ⊥
HasSpot z (s ∷ ss) = (s ≡ z) ⊎ HasSpot z ss

-- the spot of a fault: where it stands in the order of faults, and the place that it shows
abbrev pub spot_of_fault : Fault → Spot
spot_of_fault f = record { fault = record { key = f.key; place = f.place }; shown = f.shown }

-- if there are spots, their indices from a base on are among those of so many places
abbrev pub HaveRoom : ℕ → List Spot → ℕ → Type 0
HaveRoom base spots places = (z : Spot) → HasSpot z spots → base + length (ascending spots) ≤ places

-- what may be a fault, as the machine names it
abbrev pub fault_or_none : Env → Option Fault → Option M.Fault
fault_or_none v None = None
fault_or_none v (Some f) = Some (fault_of v f)

-- whether a list has a member
abbrev pub is_some_list : {A : Type 0} → List A → Bool
is_some_list [] = false
is_some_list (x ∷ xs) = true

-- some slots of a store are in a list of the machine's, each apart from the others
pub record AreHeld (c : Layout) (s : Store) (held : List Value) (here : Slot → Bool) : Type 0 where
  pub holds : (slot : Slot) → here slot ≡ true → value_at held (slot_at c slot) ≡ read s slot
  pub within : (slot : Slot) → here slot ≡ true → slot_at c slot < length held
  pub apart : (a b : Slot) → here a ≡ true → here b ≡ true → slot_at c a ≡ slot_at c b → a ≡ b

-- contributions to such slots, each of at least one, and to each slot by one reduction: of one target those of one statement are of one total; and totals are among some spots
pub record AreGiven (cs : List Contribution) (here : Slot → Bool) (spots : List Spot) : Type 0 where
  pub one : OneReduction cs
  pub here_all : (x : Contribution) → IsIn x cs → list_all here x.slots ≡ true
  pub not_empty : (x : Contribution) → IsIn x cs → is_some_list x.slots ≡ true
  pub one_total : (x y : Contribution) → IsIn x cs → IsIn y cs → x.slots ≡ y.slots → statement_of x ≡ statement_of y → x.total ≡ y.total
  pub spotted : (x : Contribution) → IsIn x cs → HasSpot (spot_of_total x.total) spots

-- what is taken is the same: the slots hold the same, other ones hold what they held, and the least fault is the same
pub record SettlesAlike (c : Layout) (v : Env) (places : ℕ) (s : Store) (held : List Value) (here : Slot → Bool) (cs : List Contribution) : Type 0 where
  pub values : (slot : Slot) → here slot ≡ true → value_at (settled places (map (given c v) cs) held).values (slot_at c slot) ≡ value_after s cs slot
  pub others : (i : ℕ) → ((x : Contribution) → IsIn x cs → is_among i (map (slot_at c) x.slots) ≡ false) → value_at (settled places (map (given c v) cs) held).values i ≡ value_at held i
  pub count : length (settled places (map (given c v) cs) held).values ≡ length held
  pub fault : (settled places (map (given c v) cs) held).fault ≡ fault_or_none v (least (total_faults s cs))

-- reductions that are numbered by the places of a segment are taken as those that are numbered by their statements
abbrev pub ReductionsSettle : Type 0
ReductionsSettle =
    (c : Layout) (v : Env) (base places : ℕ) (spots : List Spot) (s : Store) (held : List Value) (here : Slot → Bool) (cs : List Contribution)
    → v.place ≡ place_index (segment base spots) → HaveRoom base spots places
    → AreHeld c s held here → AreGiven cs here spots
    → SettlesAlike c v places s held here cs
