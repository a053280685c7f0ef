use Rattle.std.proofs.Common.{◌≡◌, ◌++◌, map, length}
use Rattle.std.specs.Vec.Iter.{into_iter_items, into_iter_len}
use Rattle.gm_ast.specs.Program.{sequence}
use Rattle.gm_ast.specs.Tree.{expr_of, stmt_of}
use Rattle.gm_cut.specs.Walks.{adds_in, loops_of, walked}
use Rattle.gm_cut.proofs.pieces.+walking.Given as goal

-- what is there and what is left make the whole
abbrev pub invariant-take_all-loop-stmt : goal.invariant-take_all-loop-stmt
invariant-take_all-loop-stmt l =
    let n = l.site.head.iterator in
    let left = walked n l.site.place (expr_of l.mask) (map stmt_of l.behind.run.items) (sequence (map stmt_of (into_iter_items l.stmt-iterator))) in
    let all = walked n l.site.place (expr_of l.mask) (map stmt_of l.initial.behind.run.items) (sequence (map stmt_of (into_iter_items l.initial.stmt-iterator))) in
    (map stmt_of l.behind.loops.items ++ loops_of l.site.key l.site.place l.site.head left.pieces ≡ map stmt_of l.initial.behind.loops.items ++ loops_of l.site.key l.site.place l.site.head all.pieces)
    × (left.run ≡ all.run)
    × (l.behind.adds ≡ adds_in n (map stmt_of l.behind.run.items))
    × (into_iter_len l.stmt-iterator ≡ length (into_iter_items l.stmt-iterator))
