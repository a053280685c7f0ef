-- When tables are those of a program.
use Rattle.std.specs.Prelude.{◌≡◌, length}
use Rattle.gm_ast.specs.Program.{Program}
use Rattle.gm_ast.specs.Tree.{program_of}
use Rattle.gm_lowering.specs.Layouts.{named_globals, kept_globals, counted_globals, local_types}
use Rattle.gm_layouts.specs.declared.layouts.Layout.TheInside.{Inside}
use Rattle.gm_layouts.specs.declared.layouts.Room.TheVariants.{Globals, Registers, Columns}
use Rattle.gm_layouts.specs.Tables.{rows_from, numbers}
use Rattle.gm_layouts.specs.Tests.{in_room, field_of}

-- the tables are those of the layout's program
pub record FitsOf (l : Inside) (p : Program) : Type 0 where
  pub globals : l.globals.items ≡ numbers 0 (rows_from (in_room Globals) 0 p.declarations)
  pub registers : l.registers.items ≡ numbers 0 (rows_from (in_room Registers) 0 p.declarations)
  pub columns : l.columns.items ≡ numbers 0 (rows_from (in_room Columns) 0 p.declarations)
  pub fields : l.fields.items ≡ numbers 0 (rows_from (field_of p) 0 p.declarations)
  pub kept : l.kept.items ≡ rows_from (field_of p) 0 p.declarations
  pub result : l.result ≡ length (named_globals p)
  pub loops : l.loops ≡ length (kept_globals p)
  pub spare_globals : l.spare_globals ≡ length (counted_globals p)
  pub spare_registers : l.spare_registers ≡ length (local_types p)

abbrev pub Fits : Inside → Type 0
Fits l = FitsOf l (program_of l.tree.now)
