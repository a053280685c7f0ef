use Rattle.std.proofs.Common.{◌≡◌, ◌+◌, map}
use Rattle.gm_ast.specs.Tree.{stmt_of}
use Rattle.gm_hoisting.specs.Hoisting.{count_body, body_out}
use Rattle.gm_hoisting.proofs.InTurn.{partly, counts_before}
use Rattle.gm_hoisting.proofs.statements.+opening.Given as goal

abbrev pub invariant-body_block-loop-i : goal.invariant-body_block-loop-i
invariant-body_block-loop-i l = goal.unvisited-body_block-loop-i l
    × (map stmt_of l.stmts.items ≡ partly body_out count_body l.i l.fn.next (map stmt_of l.initial.stmts.items))
    × (l.next ≡ l.fn.next + counts_before count_body l.i (map stmt_of l.initial.stmts.items))
