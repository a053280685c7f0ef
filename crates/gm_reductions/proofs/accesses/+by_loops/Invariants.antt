use Rattle.std.proofs.Common.{◌≡◌, ◌++◌, map, length}
use Rattle.std.specs.Vec.Iter.{into_iter_items, into_iter_len}
use Rattle.gm_ast.specs.Tree.{stmt_of}
use Rattle.gm_reductions.specs.Accesses.{by_loops}
use Rattle.gm_reductions.proofs.accesses.+by_loops.Given as goal

abbrev pub invariant-loop-stmt : goal.invariant-loop-stmt
invariant-loop-stmt l = (l.yielded ++ into_iter_items l.stmt-iterator ≡ into_iter_items l.initial.stmt-iterator)
    × (map stmt_of l.out.items ≡ map (λ s. by_loops l.fn.declarations l.fn.fresh l.fn.around (stmt_of s)) l.yielded)
    × (into_iter_len l.stmt-iterator ≡ length (into_iter_items l.stmt-iterator))
