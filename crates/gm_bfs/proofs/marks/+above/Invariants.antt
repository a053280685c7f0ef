use Rattle.std.proofs.Common.{◌≡◌, drop, map}
use Rattle.gm_ast.specs.Program.{sequence}
use Rattle.gm_ast.specs.Tree.{stmt_of}
use Rattle.gm_bfs.specs.Copies.{asks_up}
use Rattle.gm_bfs.proofs.marks.+above.Given as goal

-- what is left of the block decides
abbrev pub invariant-asks_up_among-loop-stmt : goal.invariant-asks_up_among-loop-stmt
invariant-asks_up_among-loop-stmt l = asks_up (sequence (map stmt_of (drop l.stmt-index l.stmts.items))) ≡ asks_up (sequence (map stmt_of l.stmts.items))
