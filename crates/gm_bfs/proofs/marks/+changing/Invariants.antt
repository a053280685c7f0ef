use Rattle.std.proofs.Common.{◌≡◌, drop, map}
use Rattle.gm_ast.specs.Program.{sequence}
use Rattle.gm_ast.specs.Tree.{stmt_of}
use Rattle.gm_bfs.specs.Copies.{mark_changes}
use Rattle.gm_bfs.proofs.marks.+changing.Given as goal

-- what is left of the block, after what was marked, gives what the block does
abbrev pub invariant-mark_changes_among-loop-stmt : goal.invariant-mark_changes_among-loop-stmt
invariant-mark_changes_among-loop-stmt l = mark_changes (sequence (map stmt_of (drop l.stmt-index l.stmts.items))) l.marks ≡ mark_changes (sequence (map stmt_of l.stmts.items)) l.initial.marks
