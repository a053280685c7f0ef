-- Tables of the numbers of variables.
use Rattle.std.specs.Prelude.{ℕ, zero, suc, ◌+◌, Bool, false, if◌then◌else◌, List, [], ◌∷◌, Option, Some, None, slice_get}
use Rattle.gm_value.specs.declared.values.VType.{VType}
use Rattle.gm_ast.specs.declared.tree.Declaration.{Declaration}
use Rattle.gm_ast.specs.declared.tree.Variable.{Variable}
use Rattle.gm_layouts.specs.declared.layouts.Row.{Row}

-- of each variable its type, and whether it passes a test of its index and of what it is
abbrev pub rows_from : (ℕ → Variable → Bool) → ℕ → List Declaration → List Row
rows_from test k [] = []
rows_from test k (d ∷ ds) = record { vtype = d.variable.vtype; is_held = test k d.variable } ∷ rows_from test (suc k) ds

-- the numbers of variables, each the number of held ones before it; the last is how many are held
abbrev pub numbers : ℕ → List Row → List ℕ
numbers n [] = n ∷ []
numbers n (r ∷ rs) = n ∷ numbers (if r.is_held then suc n else n) rs

-- the types of those that are held
abbrev pub held_types : List Row → List VType
held_types [] = []
held_types (r ∷ rs) = if r.is_held then r.vtype ∷ held_types rs else held_types rs

-- a variable's number. Of variables behind the table all are held, or none
abbrev pub number_in : Bool → List ℕ → ℕ → ℕ
number_in beyond [] x = 0
number_in beyond (n ∷ []) x = if beyond then n + x else n
number_in beyond (n ∷ (m ∷ ms)) zero = n
number_in beyond (n ∷ (m ∷ ms)) (suc x) = number_in beyond (m ∷ ms) x

-- whether a variable is held
abbrev pub held_or : Option Row → Bool
held_or None = false
held_or (Some r) = r.is_held

abbrev pub held_at : List Row → ℕ → Bool
held_at rows x = held_or (slice_get rows x)
