-- The type of cells.
use Rattle.std.specs.Prelude.{⊤, Bool, true, Option, Some, None, nat_lt, if◌then◌else◌}
use Rattle.gm_value.specs.declared.values.VType.{VType}
use Rattle.gm_value.specs.declared.values.VType.TheVariants as types
use Rattle.gm_value.specs.declared.values.Value.{Value}
use Rattle.gm_value.specs.declared.values.Value.TheVariants.{At}
use Rattle.gm_value.specs.Numbers.{type_of}
use Rattle.gm_columns.specs.declared.cells.Cells.{Cells}
use Rattle.gm_columns.specs.declared.cells.Cells.TheVariants.{Uniform, Ints, Longs, Flags, Nodes, Mixed}

-- cells that hold values of a type one by one, as plain cells
abbrev pub AreOf : VType → Cells → Type 0
AreOf types.I32 (Ints cells) = ⊤
AreOf types.I64 (Longs cells) = ⊤
AreOf types.Flag (Flags cells) = ⊤
AreOf types.Node (Nodes cells) = ⊤
AreOf t cells = ⊥

-- whether a value has a place in memory: each one but the node of index 4294967295, whose place stands for NIL
abbrev pub is_storable : Value → Bool
is_storable (At (Some k)) = nat_lt k 4294967295
is_storable v = true

-- the type of the column that cells give: they hold values of one type one by one, or for all nodes one value that has a
-- place in memory
abbrev pub column_type : Cells → Option VType
column_type (Uniform v nodes) = if is_storable v then Some (type_of v) else None
column_type (Ints cells) = Some types.I32
column_type (Longs cells) = Some types.I64
column_type (Flags cells) = Some types.Flag
column_type (Nodes cells) = Some types.Node
column_type (Mixed cells) = None
