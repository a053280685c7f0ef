use Rattle.std.proofs.Common.{◌≡◌, map}
use Rattle.gm_ast.specs.Tree.{stmt_of}
use Rattle.gm_desugar.specs.Conditions.{hoisted}
use Rattle.gm_desugar.proofs.Partly.{partly}
use Rattle.gm_desugar.proofs.conditions.+hoisting.Given as goal

abbrev pub invariant-hoist_block-loop-i : goal.invariant-hoist_block-loop-i
invariant-hoist_block-loop-i l = goal.unvisited-hoist_block-loop-i l × (map stmt_of l.stmts.items ≡ partly (hoisted l.variable) l.i (map stmt_of l.initial.stmts.items))
