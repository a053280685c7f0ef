use Rattle.std.proofs.Common.{◌≡◌, map}
use Rattle.gm_ast.specs.Tree.{stmt_of}
use Rattle.gm_desugar.specs.Literals.{each_expr, with_literals}
use Rattle.gm_desugar.proofs.Partly.{partly}
use Rattle.gm_desugar.proofs.literals.+phase.Given as goal

abbrev pub invariant-settle_phases-loop-i : goal.invariant-settle_phases-loop-i
invariant-settle_phases-loop-i l = goal.unvisited-settle_phases-loop-i l × (map stmt_of l.stmts.items ≡ partly (each_expr with_literals) l.i (map stmt_of l.initial.stmts.items))
