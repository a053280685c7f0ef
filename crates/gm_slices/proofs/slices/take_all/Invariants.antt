use Rattle.std.proofs.Common.{◌≡◌, ◌++◌, map, length}
use Rattle.std.specs.Vec.Iter.{into_iter_items, into_iter_len}
use Rattle.gm_ast.specs.Tree.{stmt_of}
use Rattle.gm_slices.specs.Nests.{nest_of}
use Rattle.gm_slices.specs.SliceWalks.{loops_behind}
use Rattle.gm_slices.proofs.slices.take_all.Given as goal

-- what is there and what is left make the whole
abbrev pub invariant-loop-stmt : goal.invariant-loop-stmt
invariant-loop-stmt l =
    (map stmt_of l.groups.loops.items ++ loops_behind l.fn.declarations (nest_of l.fn.nest) l.groups.fresh (map stmt_of l.groups.done.items) (map stmt_of l.groups.group.items) (map stmt_of l.groups.waits.items) (map stmt_of (into_iter_items l.stmt-iterator))
    ≡ map stmt_of l.initial.groups.loops.items ++ loops_behind l.fn.declarations (nest_of l.fn.nest) l.initial.groups.fresh (map stmt_of l.initial.groups.done.items) (map stmt_of l.initial.groups.group.items) (map stmt_of l.initial.groups.waits.items) (map stmt_of (into_iter_items l.initial.stmt-iterator)))
    × (into_iter_len l.stmt-iterator ≡ length (into_iter_items l.stmt-iterator))
