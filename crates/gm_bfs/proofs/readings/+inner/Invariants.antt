use Rattle.gm_ast.specs.Tree.{stmt_of}
use Rattle.gm_bfs.specs.Copies.{inner_reading}
use Rattle.gm_bfs.proofs.InPlace.{IsDone, IsLeft}
use Rattle.gm_bfs.proofs.readings.+inner.Given as goal

abbrev pub invariant-read_block-loop-stmt : goal.invariant-read_block-loop-stmt
invariant-read_block-loop-stmt l = IsDone stmt_of (inner_reading l.fn.fresh l.fn.marks l.fn.iterator) l.initial.stmt-items l.stmt-index l.stmt-items
    × IsLeft l.initial.stmt-items l.stmt-index l.stmt-items
