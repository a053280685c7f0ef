-- I7: each leaf of an expression stands where it may.
use Rattle.std.specs.Prelude.{ℕ, Bool, true, false, Option, Some, is_some}
use Rattle.std.specs.List.{list_all}
use Rattle.gm_image.specs.Term.{Term, Const, Global, NodeCount, EdgeCount, Message, Neighbour, Column}
use Rattle.gm_image.specs.Program.{Program, Direction, Out}
use Rattle.gm_image.specs.Parts.{all_leaves, line_terms, command_terms}
use Rattle.gm_image.specs.Rows.{Row, LineRow, CommandRow}

-- whether an each goes over out-edges
abbrev pub is_out : Option Direction → Bool
is_out (Some Out) = true
is_out d = false

-- whether a leaf may stand in the master list
abbrev pub stands_in_master : Term → Bool
stands_in_master (Const v) = true
stands_in_master (Global g) = true
stands_in_master NodeCount = true
stands_in_master EdgeCount = true
stands_in_master a = false

-- whether a leaf may stand at a vertex, in a handler of a kind or in none, and in an each or in none
abbrev pub stands_at_vertex : Option ℕ → Option Direction → Term → Bool
stands_at_vertex kind each (Message i) = is_some kind
stands_at_vertex kind each Neighbour = is_some each
stands_at_vertex kind each (Column c) = is_out each
stands_at_vertex kind each a = true

abbrev pub leaves_stand : Program → Row → Bool
leaves_stand p (LineRow s l) = list_all (all_leaves (stands_at_vertex s.kind s.around.each)) (line_terms l)
leaves_stand p (CommandRow j c) = list_all (all_leaves stands_in_master) (command_terms c)
leaves_stand p row = true
