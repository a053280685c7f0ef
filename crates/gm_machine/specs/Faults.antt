-- Faults of images, and which of two comes first.
use Rattle.std.specs.Prelude.{ℕ, nat_lt, nat_eq, Bool, ◌||◌, ◌&&◌, if◌then◌else◌, Option, Some, None, Result, Ok, Err, List, [], ◌∷◌}
use Rattle.gm_value.specs.declared.faults.FaultKind.{FaultKind}
use Rattle.gm_value.specs.Faults.{fault_number}
use Rattle.gm_machine.specs.declared.faults.Fault.{Fault}

-- whether a fault comes before another: by the index of its place, and at one place by its number
abbrev pub is_earlier : Fault → Fault → Bool
is_earlier f g = nat_lt f.place g.place || (nat_eq f.place g.place && nat_lt (fault_number f.kind) (fault_number g.kind))

-- the lesser of two faults, where there are any
abbrev pub lesser : Option Fault → Option Fault → Option Fault
lesser None g = g
lesser (Some f) None = Some f
lesser (Some f) (Some g) = if is_earlier g f then Some g else Some f

-- the least of a fault and those of a list
abbrev pub least_from : Option Fault → List (Option Fault) → Option Fault
least_from f [] = f
least_from f (g ∷ gs) = least_from (lesser f g) gs

-- the least fault of a list
abbrev pub least_fault : List (Option Fault) → Option Fault
least_fault fs = least_from None fs

-- what comes after a value: nothing after a fault
abbrev pub then_go : {A B : Type 0} → Result A Fault → (A → Result B Fault) → Result B Fault
then_go (Ok x) go = go x
then_go (Err f) go = Err f

-- an answer at a place: its fault is one of that place
abbrev pub at_place : {A : Type 0} → ℕ → Result A FaultKind → Result A Fault
at_place place (Ok v) = Ok v
at_place place (Err kind) = Err (record { place = place; kind = kind })
