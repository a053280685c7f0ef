-- The fault kinds in their order, and how one is written.
use Rattle.std.specs.Prelude.{ℕ, List, codes}
use Rattle.gm_value.specs.declared.faults.FaultKind.{FaultKind}
use Rattle.gm_value.specs.declared.faults.FaultKind.TheVariants.{DivideByZero, NilNode, Overflow}

-- a fault kind's number: of two faults at one place the lesser counts
abbrev pub fault_number : FaultKind → ℕ
fault_number DivideByZero = 1
fault_number NilNode = 2
fault_number Overflow = 3

-- a fault kind's name
abbrev pub fault_text : FaultKind → List ℕ
fault_text DivideByZero = codes "DivideByZero"
fault_text NilNode = codes "NilNode"
fault_text Overflow = codes "Overflow"
