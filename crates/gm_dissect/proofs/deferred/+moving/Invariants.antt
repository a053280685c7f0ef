use Rattle.std.proofs.Common.{◌≡◌, map}
use Rattle.gm_ast.specs.Tree.{stmt_of}
use Rattle.gm_dissect.specs.Deferred.{undeferred_loop}
use Rattle.gm_dissect.specs.Loops.{each_loop}
use Rattle.gm_dissect.proofs.Partly.{partly}
use Rattle.gm_dissect.proofs.deferred.+moving.Given as goal

abbrev pub invariant-undefer_phases-loop-i : goal.invariant-undefer_phases-loop-i
invariant-undefer_phases-loop-i l = goal.unvisited-undefer_phases-loop-i l × (map stmt_of l.stmts.items ≡ partly (each_loop (undeferred_loop l.moved.property l.moved.copy)) l.i (map stmt_of l.initial.stmts.items))
