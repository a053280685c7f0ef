use Rattle.std.proofs.Common.{◌≡◌, map, take}
use Rattle.gm_ast.specs.Tree.{stmt_of}
use Rattle.gm_bfs.specs.Searches.{copy_property}
use Rattle.gm_bfs.proofs.pieces.copy_each.Given as goal

abbrev pub invariant-loop-property : goal.invariant-loop-property
invariant-loop-property l = map stmt_of l.copies.items ≡ map (copy_property l.fn.site l.fn.fresh) (take l.property-index l.properties)
