use Rattle.std.proofs.Common.{◌≡◌, map}
use Rattle.gm_ast.specs.Tree.{stmt_of}
use Rattle.gm_dissect.specs.Loops.{each_loop}
use Rattle.gm_dissect.proofs.Partly.{partly}
use Rattle.gm_parting.specs.Filters.{filtered_loop}
use Rattle.gm_prepare.proofs.filters.+saving.Given as goal

abbrev pub invariant-save_phases-loop-i : goal.invariant-save_phases-loop-i
invariant-save_phases-loop-i l = goal.unvisited-save_phases-loop-i l × (map stmt_of l.stmts.items ≡ partly (each_loop (filtered_loop l.declarations l.property)) l.i (map stmt_of l.initial.stmts.items))
