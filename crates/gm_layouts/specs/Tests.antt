-- What holds a variable.
use Rattle.std.specs.Prelude.{ℕ, ◌+◌, nat_lt, Bool, ◌&&◌, ◌||◌, List}
use Rattle.std.specs.List.{list_any}
use Rattle.gm_value.specs.declared.values.VType.{VType}
use Rattle.gm_ast.specs.declared.tree.Sort.TheVariants as Sorts
use Rattle.gm_ast.specs.declared.tree.Variable.{Variable}
use Rattle.gm_ast.specs.Names.{is}
use Rattle.gm_ast.specs.Program.{Program}
use Rattle.gm_forms.specs.Uses.{uses_of}
use Rattle.gm_lowering.specs.Layouts.{is_global, is_register, names_property, types_of, all_those, tested}
use Rattle.gm_layouts.specs.declared.layouts.Room.{Room}
use Rattle.gm_layouts.specs.declared.layouts.Room.TheVariants as rooms
use Rattle.gm_layouts.specs.Named.{mark_at}

-- whether a room holds a variable
abbrev pub holds : Room → Variable → Bool
holds rooms.Globals v = is_global v
holds rooms.Registers v = is_register v
holds rooms.Columns v = is Sorts.EdgeProperty v

-- the same, of a row of the table
abbrev pub in_room : Room → ℕ → Variable → Bool
in_room r x v = holds r v

-- whether a variable has a field, by marks of what is named
abbrev pub has_field : List Bool → ℕ → ℕ → Variable → Bool
has_field marks given x v = is Sorts.NodeProperty v && (nat_lt x given || mark_at marks x)

-- whether a variable of a program has a field
abbrev pub field_of : Program → ℕ → Variable → Bool
field_of p x v = is Sorts.NodeProperty v && (nat_lt x (p.inputs + p.outputs) || list_any (names_property x) (uses_of p.body))

-- the types of what a room holds
abbrev pub types_in : Program → Room → List VType
types_in p r = types_of p (all_those p (tested p (holds r)))
