-- Operations on whole rows of values, value by value.
use Rattle.std.specs.Prelude.{ℕ, suc, ◌+◌, Bool, true, false, List, [], ◌∷◌, ◌++◌, Option, Some, None, Result, Ok, Err, replicate, slice_set}
use Rattle.gm_value.specs.declared.values.Value.{Value}
use Rattle.gm_value.specs.declared.faults.FaultKind.{FaultKind}
use Rattle.gm_value.specs.declared.operations.Op1.{Op1}
use Rattle.gm_value.specs.declared.operations.Op2.{Op2}
use Rattle.gm_value.specs.Operations.{result1, result2}

-- a value before others, where all are there
abbrev pub before : Option Value → Option (List Value) → Option (List Value)
before (Some v) (Some vs) = Some (v ∷ vs)
before _ _ = None

-- the value that an operation gives, where it has no fault
abbrev pub given : Result Value FaultKind → Option Value
given (Ok v) = Some v
given (Err f) = None

-- what an operation gives on each value, unless it faults on one
abbrev pub applied1 : Op1 → List Value → Option (List Value)
applied1 op [] = Some []
applied1 op (a ∷ more) = before (given (result1 op a)) (applied1 op more)

-- what a rule gives on each pair of values, unless it gives nothing on one
abbrev pub paired : (Value → Value → Option Value) → List Value → List Value → Option (List Value)
paired rule (a ∷ more) (b ∷ bs) = before (rule a b) (paired rule more bs)
paired rule _ _ = Some []

-- what an operation gives on each pair of values, unless it faults on one
abbrev pub applied2 : Op2 → List Value → List Value → Option (List Value)
applied2 op = paired (λ a b. given (result2 op a b))

-- of each pair of values the first where the flag beside them holds, else the second
abbrev pub chosen : {A : Type 0} → List Bool → List A → List A → List A
chosen (true ∷ cs) (a ∷ more) (b ∷ bs) = a ∷ chosen cs more bs
chosen (false ∷ cs) (a ∷ more) (b ∷ bs) = b ∷ chosen cs more bs
chosen _ _ _ = []

-- the places of the flags that hold, ascending, where the first has a number
abbrev pub places_from : ℕ → List Bool → List ℕ
places_from k [] = []
places_from k (true ∷ cs) = k ∷ places_from (k + 1) cs
places_from k (false ∷ cs) = places_from (k + 1) cs

-- how many flags hold
abbrev pub count_of : List Bool → ℕ
count_of [] = 0
count_of (true ∷ cs) = suc (count_of cs)
count_of (false ∷ cs) = count_of cs

-- those whose flag holds
abbrev pub held : {A : Type 0} → List Bool → List A → List A
held (true ∷ cs) (a ∷ more) = a ∷ held cs more
held (false ∷ cs) (a ∷ more) = held cs more
held _ _ = []

-- those whose flag does not hold
abbrev pub left_out : {A : Type 0} → List Bool → List A → List A
left_out (true ∷ cs) (a ∷ more) = left_out cs more
left_out (false ∷ cs) (a ∷ more) = a ∷ left_out cs more
left_out _ _ = []

-- for each flag the next of some where it holds, else the next of others
abbrev pub merged : {A : Type 0} → List Bool → List A → List A → List A
merged (true ∷ cs) (a ∷ more) others = a ∷ merged cs more others
merged (false ∷ cs) some (b ∷ others) = b ∷ merged cs some others
merged _ _ _ = []

-- a list with others written at places, one after another
abbrev pub written_at : {A : Type 0} → List A → List ℕ → List A → List A
written_at xs (k ∷ ks) (y ∷ ys) = written_at (slice_set xs k y) ks ys
written_at xs _ _ = xs

-- each value as often as the number beside it says
abbrev pub repeated : {A : Type 0} → List ℕ → List A → List A
repeated (n ∷ ns) (a ∷ more) = replicate n a ++ repeated ns more
repeated _ _ = []
