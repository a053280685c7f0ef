use Rattle.gm_ast.specs.Tree.{stmt_of}
use Rattle.gm_bfs.specs.Levelled.{searches_out}
use Rattle.gm_bfs.proofs.InPlace.{IsDone, IsLeft}
use Rattle.gm_bfs.proofs.levelled.+looping.Given as goal

abbrev pub invariant-searches_among-loop-stmt : goal.invariant-searches_among-loop-stmt
invariant-searches_among-loop-stmt l = IsDone stmt_of (searches_out l.fn.fresh l.fn.count) l.initial.stmt-items l.stmt-index l.stmt-items
    × IsLeft l.initial.stmt-items l.stmt-index l.stmt-items
