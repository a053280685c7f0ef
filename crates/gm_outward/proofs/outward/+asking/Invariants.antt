use Rattle.std.proofs.Common.{◌≡◌, map}
use Rattle.gm_ast.specs.Tree.{stmt_of}
use Rattle.gm_outward.specs.Outward.{asked_outward}
use Rattle.gm_flip.proofs.Partly.{partly}
use Rattle.gm_outward.proofs.outward.+asking.Given as goal

abbrev pub invariant-ask_block-loop-i : goal.invariant-ask_block-loop-i
invariant-ask_block-loop-i l = goal.unvisited-ask_block-loop-i l × (map stmt_of l.stmts.items ≡ partly asked_outward l.i (map stmt_of l.initial.stmts.items))
