use Rattle.std.proofs.Common.{◌≡◌, map}
use Rattle.gm_ast.specs.Tree.{stmt_of}
use Rattle.gm_desugar.specs.Groups.{ungrouped}
use Rattle.gm_desugar.proofs.Partly.{partly}
use Rattle.gm_desugar.proofs.groups.+ungrouping.Given as goal

abbrev pub invariant-ungroup_block-loop-i : goal.invariant-ungroup_block-loop-i
invariant-ungroup_block-loop-i l = goal.unvisited-ungroup_block-loop-i l × (map stmt_of l.stmts.items ≡ partly ungrouped l.i (map stmt_of l.initial.stmts.items))
