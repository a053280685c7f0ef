-- Contributions to one slot each, taken as single values.
use Rattle.std.specs.Prelude.{◌≡◌, ℕ, IsTrue, false, List, [], ◌∷◌, map, Option, Some, None, Result, Ok, Err}
use Rattle.gm_value.specs.declared.values.Value.{Value}
use Rattle.gm_value.specs.declared.values.Value.TheVariants.{Flag}
use Rattle.gm_value.specs.declared.faults.FaultKind.{FaultKind}
use Rattle.gm_value.specs.declared.reductions.Reduce.{Reduce}
use Rattle.gm_value.specs.Bag.{IsIn}
use Rattle.gm_value.specs.Reductions.{close}
use Rattle.gm_value.specs.Taking.{taken}
use Rattle.gm_value.specs.Tuples.{first_or}
use Rattle.gm_semantics.specs.declared.slots.Slot.{Slot}
use Rattle.gm_semantics.specs.Stores.{has_slot}
use Rattle.gm_semantics.specs.Contributions.{Contribution, statement_of, statement_bound}

-- the value of a contribution to one slot
abbrev pub value_of : Contribution → Value
value_of c = first_or (Flag false) c.values

-- a list of one
abbrev pub IsOne : {A : Type 0} → List A → Type 0
IsOne (x ∷ []) = Unit {0}
IsOne _ = ⊥

-- each contribution has one value
abbrev pub HaveOneValue : List Contribution → Type 0
HaveOneValue [] = Unit {0}
HaveOneValue (c ∷ cs) = IsOne c.values × HaveOneValue cs

-- a slot is a target by itself, with one value in each contribution to it
abbrev pub IsTarget : Slot → List Contribution → Type 0
IsTarget slot cs = (c : Contribution) → IsIn c cs → IsTrue (has_slot slot c.slots) → (c.slots ≡ slot ∷ []) × IsOne c.values

-- a value, if there is one
abbrev pub ok_value : Result Value FaultKind → Option Value
ok_value (Ok v) = Some v
ok_value (Err k) = None

-- a held value closed with the contributions of one statement, if it fits its type
abbrev pub close_one : Reduce → Value → List Contribution → Option Value
close_one r held bag = ok_value (close r held (map value_of bag))

-- what is held after all contributions to one slot were taken, statement by statement in the order of the text, or the statement whose total does not fit
abbrev pub taken_one : Value → List Contribution → Result Value ℕ
taken_one held [] = Ok held
taken_one held (c ∷ cs) = taken statement_of (close_one c.reduce) (statement_bound (c ∷ cs)) held (c ∷ cs)

-- the value after a taking, which leaves what was held where a total does not fit
abbrev pub value_or : Value → Result Value ℕ → Value
value_or held (Ok v) = v
value_or held (Err s) = held

-- a taking's value in a list
abbrev pub listed : Result Value ℕ → Result (List Value) ℕ
listed (Ok v) = Ok (v ∷ [])
listed (Err s) = Err s
