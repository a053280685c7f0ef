use Rattle.std.proofs.Common.{◌≡◌, map}
use Rattle.gm_ast.specs.Tree.{stmt_of}
use Rattle.gm_dissect.proofs.Partly.{partly}
use Rattle.gm_dissect.specs.Loops.{each_loop}
use Rattle.gm_cut.specs.Parts.{parted_loop}
use Rattle.gm_cut.proofs.pieces.+cutting.Given as goal

abbrev pub invariant-cut_block-loop-i : goal.invariant-cut_block-loop-i
invariant-cut_block-loop-i l = goal.unvisited-cut_block-loop-i l × (map stmt_of l.stmts.items ≡ partly (each_loop parted_loop) l.i (map stmt_of l.initial.stmts.items))
