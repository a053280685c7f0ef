-- Columns of values as contracts see them.
use Rattle.std.specs.Prelude.{◌≡◌, ◌<◌, ℕ, ⊤, List, [], ◌∷◌, All, Some, Option, slice_get}
use Rattle.std.specs.Option.{option_and_then}
use Rattle.gm_value.specs.declared.values.VType.{VType}
use Rattle.gm_value.specs.declared.values.Value.{Value}
use Rattle.gm_value.specs.declared.values.Value.TheVariants.{At}
use Rattle.gm_value.specs.Numbers.{type_of}

-- a column: the type of its values, and its values by row, from row 0
pub record TypedRow : Type 0 where
  pub vtype : VType
  pub values : List Value

-- a value that has a place in memory: each one but the node of index 4294967295, whose place stands for NIL
abbrev pub IsStorable : Value → Type 0
IsStorable (At (Some k)) = k < 4294967295
IsStorable _ = ⊤

-- a value that a column of a type can hold
pub record CanHold (t : VType) (v : Value) : Type 0 where
  pub of_type : type_of v ≡ t
  pub storable : IsStorable v

-- the value of a column, of several, at a row
abbrev pub cell_at : List (List Value) → ℕ → ℕ → Option Value
cell_at columns column row = option_and_then (λ values. slice_get values row) (slice_get columns column)

-- columns of values that columns of some types can hold, in order
abbrev pub HaveTypes : List VType → List (List Value) → Type 0
HaveTypes [] [] = ⊤
HaveTypes (t ∷ types) (values ∷ columns) = All (CanHold t) values × HaveTypes types columns
HaveTypes _ _ = ⊥
