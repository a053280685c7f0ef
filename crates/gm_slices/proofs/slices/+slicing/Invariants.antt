use Rattle.std.proofs.Common.{◌≡◌, map}
use Rattle.gm_ast.specs.Tree.{stmt_of}
use Rattle.gm_dissect.proofs.Partly.{partly}
use Rattle.gm_dissect.specs.Loops.{each_loop}
use Rattle.gm_cut.specs.Lean.{lean_loop}
use Rattle.gm_slices.proofs.slices.+slicing.Given as goal

abbrev pub invariant-slice_all-loop-i : goal.invariant-slice_all-loop-i
invariant-slice_all-loop-i l = goal.unvisited-slice_all-loop-i l × (map stmt_of l.stmts.items ≡ partly (each_loop (lean_loop l.declarations)) l.i (map stmt_of l.initial.stmts.items))
