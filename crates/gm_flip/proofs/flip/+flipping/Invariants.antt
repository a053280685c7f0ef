use Rattle.std.proofs.Common.{◌≡◌, map}
use Rattle.gm_ast.specs.Tree.{stmt_of}
use Rattle.gm_flip.specs.Flipped.{flipped}
use Rattle.gm_flip.proofs.Partly.{partly}
use Rattle.gm_flip.proofs.flip.+flipping.Given as goal

abbrev pub invariant-flip_block-loop-i : goal.invariant-flip_block-loop-i
invariant-flip_block-loop-i l = goal.unvisited-flip_block-loop-i l × (map stmt_of l.stmts.items ≡ partly flipped l.i (map stmt_of l.initial.stmts.items))
