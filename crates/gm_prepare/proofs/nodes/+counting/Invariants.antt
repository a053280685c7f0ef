use Rattle.std.proofs.Common.{◌≡◌, ◌+◌, drop, map}
use Rattle.gm_ast.specs.Program.{sequence}
use Rattle.gm_ast.specs.Tree.{stmt_of}
use Rattle.gm_parting.specs.Nodes.{nodes_in}
use Rattle.gm_prepare.proofs.nodes.+counting.Given as goal

-- what is counted and what is left make the whole
abbrev pub invariant-count_block-loop-stmt : goal.invariant-count_block-loop-stmt
invariant-count_block-loop-stmt l = l.count + nodes_in l.declarations (sequence (map stmt_of (drop l.stmt-index l.stmts.items))) ≡ nodes_in l.declarations (sequence (map stmt_of l.stmts.items))
