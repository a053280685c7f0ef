-- Contributions, and what slots hold after they were taken.
use Rattle.std.specs.Prelude.{ℕ, suc, max, if◌then◌else◌, List, [], ◌∷◌, map, filter, Option, None, Result, Ok, Err}
use Rattle.gm_value.specs.declared.values.Value.{Value}
use Rattle.gm_value.specs.declared.reductions.Reduce.{Reduce}
use Rattle.gm_value.specs.Taking.{of_rank, taken}
use Rattle.gm_value.specs.Tuples.{close_slots}
use Rattle.gm_ast.specs.declared.tree.TotalKey.{TotalKey}
use Rattle.gm_semantics.specs.declared.faults.Fault.{Fault}
use Rattle.gm_semantics.specs.declared.slots.Slot.{Slot}
use Rattle.gm_semantics.specs.declared.slots.Slot.TheVariants.{Scalar, Node}
use Rattle.gm_semantics.specs.Stores.{Store, slot_eq, slots_eq, has_slot, read, reads}
use Rattle.gm_semantics.specs.Faults.{least, somes, total_fault}

-- what a reduction assignment gives to its target when a loop ends: the key of the total to which it belongs, and a value for each slot of the target. An ordinary reduction has one slot; the slots of an argument reduction count as one target
pub record Contribution : Type 0 where
  pub total : TotalKey
  pub reduce : Reduce
  pub slots : List Slot
  pub values : List Value

-- the number of the statement that made a contribution
abbrev pub statement_of : Contribution → ℕ
statement_of c = c.total.key.statement

-- the contributions to a target, which is its slots
abbrev pub to_target : List Slot → List Contribution → List Contribution
to_target slots cs = filter (λ c. slots_eq slots c.slots) cs

-- the target that a slot belongs to: that of the first contribution to it, and the slot alone where there is none. By the rules of races one target alone has the slot in a loop
abbrev pub target_of : Slot → List Contribution → List Slot
target_of slot [] = slot ∷ []
target_of slot (c ∷ cs) = if has_slot slot c.slots then c.slots else target_of slot cs

-- held values closed with the contributions of one statement, if they fit their types
abbrev pub close_by : Reduce → List Value → List Contribution → Option (List Value)
close_by r held bag = close_slots r held (map (λ c. c.values) bag)

-- a number above the statements of all contributions
abbrev pub statement_bound : List Contribution → ℕ
statement_bound [] = 0
statement_bound (c ∷ cs) = max (suc (statement_of c)) (statement_bound cs)

-- what is held after all contributions to one target were taken, statement by statement in the order of the text, or the statement whose total does not fit. They are by one reduction, the first one's
abbrev pub taken_onto : List Value → List Contribution → Result (List Value) ℕ
taken_onto held [] = Ok held
taken_onto held (c ∷ cs) = taken statement_of (close_by c.reduce) (statement_bound (c ∷ cs)) held (c ∷ cs)

-- the values after a taking, which leaves what was held where a total does not fit
abbrev pub values_or : List Value → Result (List Value) ℕ → List Value
values_or held (Ok vs) = vs
values_or held (Err s) = held

-- the fault of a taking: that of the statement's total
abbrev pub fault_in : {V : Type 0} → List Contribution → Result V ℕ → Option Fault
fault_in cs (Ok v) = None
fault_in cs (Err s) = least (map (λ c. total_fault c.total) (of_rank statement_of s cs))

-- what a target's slots hold after contributions, or the statement whose total does not fit
abbrev pub target_taken : Store → List Contribution → List Slot → Result (List Value) ℕ
target_taken s cs slots = taken_onto (reads s slots) (to_target slots cs)

-- a slot's value among those of some slots, and another where it is not among them
abbrev pub value_among : Slot → List Slot → List Value → Value → Value
value_among slot (x ∷ xs) (v ∷ vs) other = if slot_eq slot x then v else value_among slot xs vs other
value_among slot _ _ other = other

-- what a slot holds after contributions: its value among those of its target
abbrev pub value_after : Store → List Contribution → Slot → Value
value_after s cs slot =
    let slots = target_of slot cs in
    value_among slot slots (values_or (reads s slots) (target_taken s cs slots)) (read s slot)

-- the fault of the totals of a target
abbrev pub target_fault : Store → List Contribution → List Slot → Option Fault
target_fault s cs slots = fault_in (to_target slots cs) (target_taken s cs slots)

-- the store after contributions
abbrev pub settled_store : Store → List Contribution → Store
settled_store s cs = record { scalar = λ x. value_after s cs (Scalar x); node = λ p n. value_after s cs (Node p n); edge = s.edge }

-- the faults of the totals of all contributions
abbrev pub total_faults : Store → List Contribution → List Fault
total_faults s cs = somes (map (λ c. target_fault s cs c.slots) cs)
