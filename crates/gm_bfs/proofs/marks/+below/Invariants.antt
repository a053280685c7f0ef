use Rattle.std.proofs.Common.{◌≡◌, drop, map}
use Rattle.gm_ast.specs.Program.{sequence}
use Rattle.gm_ast.specs.Tree.{stmt_of}
use Rattle.gm_bfs.specs.Copies.{asks_down}
use Rattle.gm_bfs.proofs.marks.+below.Given as goal

-- what is left of the block decides
abbrev pub invariant-asks_down_among-loop-stmt : goal.invariant-asks_down_among-loop-stmt
invariant-asks_down_among-loop-stmt l = asks_down (sequence (map stmt_of (drop l.stmt-index l.stmts.items))) ≡ asks_down (sequence (map stmt_of l.stmts.items))
