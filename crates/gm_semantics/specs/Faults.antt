-- Faults in their order, and how answers that may be faults go on.
use Rattle.std.specs.Prelude.{ℕ, nat_eq, nat_lt, Bool, false, ◌&&◌, ◌||◌, if◌then◌else◌, List, [], ◌∷◌, ◌++◌, Option, Some, None, Result, Ok, Err}
use Rattle.gm_value.specs.declared.faults.FaultKind.{FaultKind}
use Rattle.gm_value.specs.declared.faults.FaultKind.TheVariants.{Overflow}
use Rattle.gm_value.specs.Faults.{fault_number}
use Rattle.gm_ast.specs.declared.tree.TotalKey.{TotalKey}
use Rattle.gm_ast.specs.Keys.{stage_rank}
use Rattle.gm_semantics.specs.declared.faults.Fault.{Fault}

-- the numbers that order faults: statement, stage, place, kind; the place that is shown comes last, so that only equal faults tie
abbrev pub rank_of : Fault → List ℕ
rank_of f =
    f.key.statement ∷ stage_rank f.key.stage ∷ f.place.line ∷ f.place.col ∷ fault_number f.kind ∷ f.shown.line ∷ f.shown.col ∷ []

-- whether a list of numbers comes before another, the first numbers that differ deciding
abbrev pub comes_before : List ℕ → List ℕ → Bool
comes_before (x ∷ xs) (y ∷ ys) = nat_lt x y || (nat_eq x y && comes_before xs ys)
comes_before _ _ = false

-- the lesser of two faults
abbrev pub lower : Fault → Fault → Fault
lower f g = if comes_before (rank_of g) (rank_of f) then g else f

-- the lesser of a fault and what may be one
abbrev pub lesser : Fault → Option Fault → Option Fault
lesser f None = Some f
lesser f (Some g) = Some (lower f g)

-- the least of some faults
abbrev pub least : List Fault → Option Fault
least [] = None
least (f ∷ fs) = lesser f (least fs)

-- the first fault of two parts in order
abbrev pub first : Option Fault → Option Fault → Option Fault
first None b = b
first (Some f) b = Some f

-- goes on with a value
abbrev pub then_with : {A B : Type 0} → Result A Fault → (A → Result B Fault) → Result B Fault
then_with (Ok a) next = next a
then_with (Err f) next = Err f

-- the answer of a part that comes after another, which may have faulted
abbrev pub unless_fault : {A : Type 0} → Option Fault → Result A Fault → Result A Fault
unless_fault (Some f) answer = Err f
unless_fault None answer = answer

-- the fault of an answer
abbrev pub fault_of : {A : Type 0} → Result A Fault → Option Fault
fault_of (Ok a) = None
fault_of (Err f) = Some f

-- the values of some answers
abbrev pub oks : {A : Type 0} → List (Result A Fault) → List A
oks [] = []
oks (Ok a ∷ rs) = a ∷ oks rs
oks (Err f ∷ rs) = oks rs

-- the faults of some answers
abbrev pub errs : {A : Type 0} → List (Result A Fault) → List Fault
errs [] = []
errs (Ok a ∷ rs) = errs rs
errs (Err f ∷ rs) = f ∷ errs rs

-- the faults of some parts
abbrev pub somes : List (Option Fault) → List Fault
somes [] = []
somes (None ∷ fs) = somes fs
somes (Some f ∷ fs) = f ∷ somes fs

-- lists joined in order
abbrev pub joined : {A : Type 0} → List (List A) → List A
joined [] = []
joined (xs ∷ xss) = xs ++ joined xss

-- the fault of a total whose exact value is out of its type's range
abbrev pub total_fault : TotalKey → Fault
total_fault t = record { kind = Overflow; shown = t.shown; key = t.key; place = t.place }

-- a closed total, or its fault
abbrev pub of_total : {A : Type 0} → TotalKey → Result A FaultKind → Result A Fault
of_total t (Ok a) = Ok a
of_total t (Err k) = Err (total_fault t)
