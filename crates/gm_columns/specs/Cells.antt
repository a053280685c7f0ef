-- The cells of a row: one value for all nodes, a row of numbers or truth values of one type, or values of any type.
use Rattle.std.specs.Prelude.{◌≡◌, ⊤, ℕ, nat_lt, List, map, replicate, Some, None, if◌then◌else◌}
use Rattle.gm_value.specs.declared.values.Value.{Value}
use Rattle.gm_value.specs.declared.values.Value.TheVariants.{I32, I64, Flag, At}
use Rattle.gm_columns.specs.Columns.{IsStorable}
use Rattle.gm_columns.specs.declared.cells.Cells.{Cells}
use Rattle.gm_columns.specs.declared.cells.Cells.TheVariants.{Uniform, Ints, Longs, Flags, Nodes, Mixed}

-- the node whose index a cell holds, or NIL in a cell of the greatest number
abbrev pub node_in : ℕ → Value
node_in k = if nat_lt k 4294967295 then At (Some k) else At None

-- the values that cells hold, by node
abbrev pub values_of : Cells → List Value
values_of (Uniform v nodes) = replicate nodes v
values_of (Ints cells) = map (λ z. I32 z) cells.items
values_of (Longs cells) = map (λ z. I64 z) cells.items
values_of (Flags cells) = map (λ b. Flag b) cells.items
values_of (Nodes cells) = map node_in cells.items
values_of (Mixed cells) = cells.items

-- cells that can hold a value at a node as they are
abbrev pub Takes : Cells → Value → Type 0
Takes (Uniform held nodes) v = held ≡ v
Takes (Ints cells) (I32 z) = ⊤
Takes (Longs cells) (I64 z) = ⊤
Takes (Flags cells) (Flag b) = ⊤
Takes (Nodes cells) (At node) = IsStorable (At node)
Takes (Mixed cells) v = ⊤
Takes cells v = ⊥
