use Rattle.std.proofs.Common.{◌≡◌, map}
use Rattle.gm_ast.specs.Tree.{stmt_of}
use Rattle.gm_dissect.specs.Loops.{each_loop}
use Rattle.gm_dissect.proofs.Partly.{partly}
use Rattle.gm_parting.specs.Numbers.{numbered_loop}
use Rattle.gm_prepare.proofs.numbers.+phases.Given as goal

abbrev pub invariant-number_phases-loop-i : goal.invariant-number_phases-loop-i
invariant-number_phases-loop-i l = goal.unvisited-number_phases-loop-i l × (map stmt_of l.stmts.items ≡ partly (each_loop numbered_loop) l.i (map stmt_of l.initial.stmts.items))
