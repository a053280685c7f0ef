-- What assignments write, as the code has it.
use Rattle.std.specs.Prelude.{ℕ, List, [], ◌∷◌, ◌++◌, Option, Some, None, Result, Ok, Err}
use Rattle.std.specs.declared.alloc.Global.{Global}
use Rattle.std.specs.declared.vec.Vec.{Vec}
use Rattle.gm_base.specs.declared.places.Place.{Place}
use Rattle.gm_value.specs.declared.faults.FaultKind.TheVariants.{Overflow}
use Rattle.gm_value.specs.declared.reductions.Reduce.{Reduce}
use Rattle.gm_value.specs.Tuples.{close_slots}
use Rattle.gm_ast.specs.declared.tree.Key.{Key}
use Rattle.gm_ast.specs.declared.tree.Target.{Target}
use Rattle.gm_value.specs.declared.values.Value.{Value}
use Rattle.gm_semantics.specs.declared.faults.Fault.{Fault}
use Rattle.gm_semantics.specs.declared.slots.Slot.{Slot}
use Rattle.gm_semantics.specs.declared.slots.Write.{Write}
use Rattle.gm_semantics.specs.Faults.{first, then_with, unless_fault}
use Rattle.gm_semantics.specs.Expressions as E
use Rattle.gm_semantics.specs.Expressions.{Answer}
use Rattle.gm_store.specs.Held.{Shape}
use Rattle.gm_loops.specs.declared.tuples.AllEvaluated.{AllEvaluated}
use Rattle.gm_loops.specs.declared.tuples.Tuple.{Tuple}

-- a slot and its value
abbrev pub pair_of : Result Write Fault → Result (Slot × Value) Fault
pair_of (Ok w) = Ok (w.slot, w.value)
pair_of (Err f) = Err f

-- what is hoisted of a value, then the slot, then the rest of the value
abbrev pub put_together : Option Fault → Result Slot Fault → Answer → Result (Slot × Value) Fault
put_together hoisted slot rest = unless_fault hoisted (then_with slot (λ s. then_with rest (λ x. Ok (s, x))))

-- the shape of a store with a number of nodes, and of scalars and rows
abbrev pub room : ℕ → ℕ → Shape
room nodes variables = record { scalars = variables; rows = variables; nodes = nodes }

-- slots and their values
abbrev pub tuple_of : Result Tuple Fault → Result (List Slot × List Value) Fault
tuple_of (Ok t) = Ok (t.slots.items, t.values.items)
tuple_of (Err f) = Err f

-- the items of a list, if there is one
abbrev pub items_of : {A : Type 0} → Result (Vec A Global) Fault → Result (List A) Fault
items_of (Ok xs) = Ok xs.items
items_of (Err f) = Err f

-- answers, and then one more
abbrev pub rest_and_one : Result (List Value) Fault → Answer → Result (List Value) Fault
rest_and_one rest a = then_with rest (λ xs. then_with a (λ x. Ok (xs ++ x ∷ [])))

-- several expressions, and then one more: what is hoisted of all comes before the rest of all
abbrev pub and_next : E.AllEvaluated → E.Evaluated → E.AllEvaluated
and_next all next = record { hoisted = first all.hoisted next.hoisted; rest = rest_and_one all.rest next.rest }

-- several expressions, and others behind them
abbrev pub followed : E.AllEvaluated → E.AllEvaluated → E.AllEvaluated
followed a b = record { hoisted = first a.hoisted b.hoisted; rest = then_with a.rest (λ xs. then_with b.rest (λ ys. Ok (xs ++ ys))) }

-- the two parts of the values of several expressions
abbrev pub all_parts : AllEvaluated → E.AllEvaluated
all_parts all = record { hoisted = all.hoisted; rest = items_of all.rest }

-- held values after one tuple was taken, or Overflow at a place
abbrev pub held_or_fault : Key → Place → Option (List Value) → Result (List Value) Fault
held_or_fault key place (Some vs) = Ok vs
held_or_fault key place None = Err (record { kind = Overflow; shown = place; key = key; place = place })

-- held values closed with one tuple at a place
abbrev pub closed_by_one : Reduce → Key → Place → Result (List Value) Fault → Result (List Value) Fault → Result (List Value) Fault
closed_by_one r key place held new = then_with held (λ xs. then_with new (λ vs. held_or_fault key place (close_slots r xs (vs ∷ []))))

-- a statement is anything but a reduction of one target by one value
abbrev pub AreSeveral : {E : Type 0} → List Target → List E → Type 0
AreSeveral (t ∷ []) (e ∷ []) = ⊥
AreSeveral ts es = Unit {0}
