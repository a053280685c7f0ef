use Rattle.std.proofs.Common.{◌≡◌, ◌++◌, map, length}
use Rattle.std.specs.Vec.Iter.{into_iter_items, into_iter_len}
use Rattle.gm_ast.specs.Program.{sequence}
use Rattle.gm_ast.specs.Tree.{stmt_of}
use Rattle.gm_cut.specs.Slices.{statements_of}
use Rattle.gm_slices.proofs.slicing.+opening.Given as goal

-- what is there and what is left make the whole
abbrev pub invariant-open_all-loop-stmt : goal.invariant-open_all-loop-stmt
invariant-open_all-loop-stmt l =
    (map stmt_of l.behind.items ++ statements_of (sequence (map stmt_of (into_iter_items l.stmt-iterator))) ≡ map stmt_of l.initial.behind.items ++ statements_of (sequence (map stmt_of (into_iter_items l.initial.stmt-iterator))))
    × (into_iter_len l.stmt-iterator ≡ length (into_iter_items l.stmt-iterator))
