use Rattle.std.proofs.Common.{◌≡◌, drop, map}
use Rattle.gm_ast.specs.Program.{sequence}
use Rattle.gm_ast.specs.Tree.{stmt_of}
use Rattle.gm_prepare.specs.Numbered.{has_number}
use Rattle.gm_prepare.proofs.numbers.+searching.Given as goal

-- what is left of the block decides
abbrev pub invariant-is_among-loop-stmt : goal.invariant-is_among-loop-stmt
invariant-is_among-loop-stmt l = has_number l.number (sequence (map stmt_of (drop l.stmt-index l.stmts.items))) ≡ has_number l.number (sequence (map stmt_of l.stmts.items))
