use Rattle.std.proofs.Common.{◌≡◌, ◌+◌, map}
use Rattle.gm_ast.specs.Tree.{stmt_of}
use Rattle.gm_desugar.proofs.ReadsAmong.{some_apart, some_counts}
use Rattle.gm_desugar.proofs.reads.+setting.Given as goal

abbrev pub invariant-set_block_apart-loop-i : goal.invariant-set_block_apart-loop-i
invariant-set_block_apart-loop-i l = goal.unvisited-set_block_apart-loop-i l
    × (map stmt_of l.stmts.items ≡ some_apart l.i l.fn.next (map stmt_of l.initial.stmts.items))
    × (l.next ≡ l.fn.next + some_counts l.i (map stmt_of l.initial.stmts.items))
