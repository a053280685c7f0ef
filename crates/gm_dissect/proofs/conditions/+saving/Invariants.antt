use Rattle.std.proofs.Common.{◌≡◌, map}
use Rattle.gm_ast.specs.Tree.{stmt_of}
use Rattle.gm_dissect.specs.Conditions.{local_of, with_saved}
use Rattle.gm_dissect.proofs.Partly.{partly}
use Rattle.gm_dissect.proofs.conditions.+saving.Given as goal

abbrev pub invariant-save_block-loop-i : goal.invariant-save_block-loop-i
invariant-save_block-loop-i l = goal.unvisited-save_block-loop-i l × (map stmt_of l.stmts.items ≡ partly (with_saved (local_of l.first l.numbers.items) l.place) l.i (map stmt_of l.initial.stmts.items))
