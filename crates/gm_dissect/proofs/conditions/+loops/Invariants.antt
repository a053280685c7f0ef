use Rattle.std.proofs.Common.{◌≡◌, map}
use Rattle.gm_ast.specs.Tree.{stmt_of}
use Rattle.gm_dissect.specs.Conditions.{local_of, saved_loop}
use Rattle.gm_dissect.specs.Loops.{each_loop}
use Rattle.gm_dissect.proofs.Partly.{partly}
use Rattle.gm_dissect.proofs.conditions.+loops.Given as goal

abbrev pub invariant-save_phases-loop-i : goal.invariant-save_phases-loop-i
invariant-save_phases-loop-i l = goal.unvisited-save_phases-loop-i l × (map stmt_of l.stmts.items ≡ partly (each_loop (saved_loop (local_of l.first l.numbers.items))) l.i (map stmt_of l.initial.stmts.items))
