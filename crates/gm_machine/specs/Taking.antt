-- Contributions to lists of slots, and how they are taken onto the values that the slots hold.
use Rattle.std.specs.Prelude.{ℕ, nat_eq, Bool, cond, Option, Some, None, Result, Ok, Err, List, [], ◌∷◌, map, filter, find}
use Rattle.std.specs.Option.{option_map}
use Rattle.std.specs.List.{enumerate_from}
use Rattle.gm_value.specs.declared.faults.FaultKind.TheVariants.{Overflow}
use Rattle.gm_value.specs.declared.values.Value.{Value}
use Rattle.gm_value.specs.declared.reductions.Reduce.{Reduce}
use Rattle.gm_value.specs.Taking.{taken}
use Rattle.gm_value.specs.Tuples.{close_slots}
use Rattle.gm_image.specs.Parts.{is_among}
use Rattle.gm_image.specs.Folds.{Reduction, same_numbers}
use Rattle.gm_machine.specs.declared.faults.Fault.{Fault}
use Rattle.gm_machine.specs.Faults.{then_go, least_fault}
use Rattle.gm_machine.specs.Expressions.{value_at}

-- what a run of a reduction's line gives: a value for each of its slots, which are globals or fields
pub record Contribution : Type 0 where
  pub place : ℕ
  pub reduce : Reduce
  pub slots : List ℕ
  pub values : List Value

-- what is given to some slots, nothing where there are none
abbrev pub contributed : ℕ → Reduce → List ℕ → List Value → List Contribution
contributed place reduce [] values = []
contributed place reduce (slot ∷ slots) values = record { place = place; reduce = reduce; slots = slot ∷ slots; values = values } ∷ []

-- whether a contribution has a slot
abbrev pub has_slot : ℕ → Contribution → Bool
has_slot slot c = is_among slot c.slots

-- the reduction of a contribution: its word with its slots
abbrev pub reduction_of : Contribution → Reduction
reduction_of c = record { reduce = c.reduce; slots = c.slots }

-- the reduction by which a slot is reduced first, if it is. The slots of this reduction count as one target.
abbrev pub first_reduction : ℕ → List Contribution → Option Reduction
first_reduction slot contributions = option_map reduction_of (find (has_slot slot) contributions)

-- the contributions to a target
abbrev pub to_target : List ℕ → List Contribution → List Contribution
to_target slots contributions = filter (λ c. same_numbers c.slots slots) contributions

-- the held values of a target closed with some contributions by a reduction, where that is in range
abbrev pub closed : Reduce → List Value → List Contribution → Option (List Value)
closed reduce held contributions = close_slots reduce held (map (λ c. c.values) contributions)

-- the rank at which a taking fails is the place of an overflow
abbrev pub overflow_at : {A : Type 0} → Result A ℕ → Result A Fault
overflow_at (Ok v) = Ok v
overflow_at (Err place) = Err (record { place = place; kind = Overflow })

-- what the slots of a reduction hold after the contributions to them, taken place by place below a bound, or the fault that ended their taking
abbrev pub target_after : ℕ → List Contribution → List Value → Reduction → Result (List Value) Fault
target_after places contributions held r =
    overflow_at (taken (λ c. c.place) (closed r.reduce) places (map (value_at held) r.slots) (to_target r.slots contributions))

-- the entry of a slot among the values of some slots, another value where it has none
abbrev pub entry_of : ℕ → List ℕ → List Value → Value → Value
entry_of slot [] values other = other
entry_of slot (s ∷ slots) [] other = other
entry_of slot (s ∷ slots) (v ∷ values) other = cond (nat_eq s slot) v (entry_of slot slots values other)

-- what a slot holds after its target was taken by a reduction, or the target's fault. A slot that is not reduced holds what it held.
abbrev pub slot_by : ℕ → List Contribution → List Value → ℕ → Option Reduction → Result Value Fault
slot_by places contributions held slot None = Ok (value_at held slot)
slot_by places contributions held slot (Some r) =
    then_go (target_after places contributions held r) (λ values. Ok (entry_of slot r.slots values (value_at held slot)))

abbrev pub slot_after : ℕ → List Contribution → List Value → ℕ → Result Value Fault
slot_after places contributions held slot = slot_by places contributions held slot (first_reduction slot contributions)

-- an answer's value, or another where it is a fault
abbrev pub value_or : Value → Result Value Fault → Value
value_or other (Ok v) = v
value_or other (Err f) = other

-- an answer's fault
abbrev pub fault_of : Result Value Fault → Option Fault
fault_of (Ok v) = None
fault_of (Err f) = Some f

-- the value of a slot after its taking, where a fault leaves what it held
abbrev pub value_after : ℕ → List Contribution → List Value → (ℕ × Value) → Value
value_after places contributions held at = value_or at.1 (slot_after places contributions held at.0)

-- the fault of a slot's taking
abbrev pub fault_after : ℕ → List Contribution → List Value → (ℕ × Value) → Option Fault
fault_after places contributions held at = fault_of (slot_after places contributions held at.0)

-- values, and the least fault on the way to them
pub record Settled : Type 0 where
  pub values : List Value
  pub fault : Option Fault

-- the slots after all contributions to them
abbrev pub settled : ℕ → List Contribution → List Value → Settled
settled places contributions held = record {
  values = map (value_after places contributions held) (enumerate_from 0 held);
  fault = least_fault (map (fault_after places contributions held) (enumerate_from 0 held));
}
