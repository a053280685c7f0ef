use Rattle.std.proofs.Common.{◌≡◌, drop, map}
use Rattle.gm_ast.specs.Program.{sequence}
use Rattle.gm_ast.specs.Tree.{stmt_of}
use Rattle.gm_prepare.specs.Numbered.{all_differ}
use Rattle.gm_prepare.proofs.numbers.+telling.Given as goal

-- what is left of the block decides
abbrev pub invariant-all_differ-loop-stmt : goal.invariant-all_differ-loop-stmt
invariant-all_differ-loop-stmt l = all_differ l.outer (sequence (map stmt_of (drop l.stmt-index l.stmts.items))) ≡ all_differ l.outer (sequence (map stmt_of l.stmts.items))
