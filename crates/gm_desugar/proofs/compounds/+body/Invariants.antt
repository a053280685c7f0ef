use Rattle.std.proofs.Common.{◌≡◌, map}
use Rattle.gm_ast.specs.Tree.{stmt_of}
use Rattle.gm_desugar.specs.Compounds.{expanded_in}
use Rattle.gm_desugar.proofs.Partly.{partly}
use Rattle.gm_desugar.proofs.compounds.+body.Given as goal

abbrev pub invariant-expand_block-loop-i : goal.invariant-expand_block-loop-i
invariant-expand_block-loop-i l = goal.unvisited-expand_block-loop-i l × (map stmt_of l.stmts.items ≡ partly (expanded_in l.declarations l.around.outer l.around.inner) l.i (map stmt_of l.initial.stmts.items))
