use Rattle.std.proofs.Common.{◌≡◌, map}
use Rattle.gm_ast.specs.Tree.{stmt_of}
use Rattle.gm_dissect.proofs.Partly.{partly}
use Rattle.gm_locals.specs.AllMoved.{property_of, first_values, all_moved}
use Rattle.gm_locals.proofs.rewriting.+moving.Given as goal

abbrev pub invariant-move_block-loop-i : goal.invariant-move_block-loop-i
invariant-move_block-loop-i l = goal.unvisited-move_block-loop-i l
    × (map stmt_of l.stmts.items ≡ partly (all_moved (property_of l.kept.first l.locals) l.kept.iterator l.kept.place (first_values l.declarations)) l.i (map stmt_of l.initial.stmts.items))
