use Rattle.std.proofs.Common.{◌≡◌, drop, map}
use Rattle.gm_ast.specs.Program.{sequence}
use Rattle.gm_ast.specs.Tree.{stmt_of}
use Rattle.gm_bfs.specs.Copies.{mark_levels}
use Rattle.gm_bfs.proofs.marks.+asking.Given as goal

-- what is left of the block, after what was marked, gives what the block does
abbrev pub invariant-mark_levels_among-loop-stmt : goal.invariant-mark_levels_among-loop-stmt
invariant-mark_levels_among-loop-stmt l = mark_levels l.changed (sequence (map stmt_of (drop l.stmt-index l.stmts.items))) l.marks ≡ mark_levels l.fn.changed (sequence (map stmt_of l.stmts.items)) l.initial.marks
