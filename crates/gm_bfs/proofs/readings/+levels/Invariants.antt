use Rattle.gm_ast.specs.Tree.{stmt_of}
use Rattle.gm_bfs.specs.Searches.{by_levels}
use Rattle.gm_bfs.proofs.InPlace.{IsDone, IsLeft}
use Rattle.gm_bfs.proofs.readings.+levels.Given as goal

abbrev pub invariant-levels_among-loop-stmt : goal.invariant-levels_among-loop-stmt
invariant-levels_among-loop-stmt l = IsDone stmt_of (by_levels l.fn.fresh l.fn.marks) l.initial.stmt-items l.stmt-index l.stmt-items
    × IsLeft l.initial.stmt-items l.stmt-index l.stmt-items
