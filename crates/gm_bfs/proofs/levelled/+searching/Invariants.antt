use Rattle.std.proofs.Common.{◌≡◌, drop, map}
use Rattle.gm_ast.specs.Program.{sequence}
use Rattle.gm_ast.specs.Tree.{stmt_of}
use Rattle.gm_bfs.specs.Levelled.{has_search}
use Rattle.gm_bfs.proofs.levelled.+searching.Given as goal

-- what is left of the block decides
abbrev pub invariant-has_search_among-loop-stmt : goal.invariant-has_search_among-loop-stmt
invariant-has_search_among-loop-stmt l = has_search (sequence (map stmt_of (drop l.stmt-index l.stmts.items))) ≡ has_search (sequence (map stmt_of l.stmts.items))
