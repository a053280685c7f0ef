use Rattle.std.proofs.Common.{◌≡◌, map}
use Rattle.gm_ast.specs.Tree.{stmt_of}
use Rattle.gm_desugar.specs.Compounds.{expanded}
use Rattle.gm_desugar.proofs.Partly.{partly}
use Rattle.gm_desugar.proofs.compounds.+phase.Given as goal

abbrev pub invariant-expand_phases-loop-i : goal.invariant-expand_phases-loop-i
invariant-expand_phases-loop-i l = goal.unvisited-expand_phases-loop-i l × (map stmt_of l.stmts.items ≡ partly (expanded l.declarations) l.i (map stmt_of l.initial.stmts.items))
