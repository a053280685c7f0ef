use Rattle.std.proofs.Common.{◌≡◌, map}
use Rattle.gm_ast.specs.Tree.{stmt_of}
use Rattle.gm_dissect.specs.Loops.{each_loop}
use Rattle.gm_dissect.proofs.Partly.{partly}
use Rattle.gm_parting.specs.Declared.{declared_loop}
use Rattle.gm_prepare.proofs.declared.+loops.Given as goal

abbrev pub invariant-declare_phases-loop-i : goal.invariant-declare_phases-loop-i
invariant-declare_phases-loop-i l = goal.unvisited-declare_phases-loop-i l × (map stmt_of l.stmts.items ≡ partly (each_loop (declared_loop l.declarations)) l.i (map stmt_of l.initial.stmts.items))
