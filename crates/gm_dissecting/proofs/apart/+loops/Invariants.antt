use Rattle.std.proofs.Common.{◌≡◌, map}
use Rattle.gm_ast.specs.Tree.{stmt_of}
use Rattle.gm_dissect.specs.Loops.{each_loop}
use Rattle.gm_dissect.proofs.Partly.{partly}
use Rattle.gm_parting.specs.Apart.{apart_loop}
use Rattle.gm_dissecting.proofs.apart.+loops.Given as goal

abbrev pub invariant-stand_phases-loop-i : goal.invariant-stand_phases-loop-i
invariant-stand_phases-loop-i l = goal.unvisited-stand_phases-loop-i l × (map stmt_of l.stmts.items ≡ partly (each_loop (apart_loop l.declarations l.first)) l.i (map stmt_of l.initial.stmts.items))
