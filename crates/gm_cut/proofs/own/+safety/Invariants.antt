use Rattle.std.proofs.Common.{◌≡◌, drop, map}
use Rattle.gm_ast.specs.Program.{sequence}
use Rattle.gm_ast.specs.Tree.{stmt_of}
use Rattle.gm_cut.specs.Own.{is_safe}
use Rattle.gm_cut.proofs.own.+safety.Given as goal

-- what is left of the block decides
abbrev pub invariant-are_safe-loop-stmt : goal.invariant-are_safe-loop-stmt
invariant-are_safe-loop-stmt l = is_safe l.outer (sequence (map stmt_of (drop l.stmt-index l.stmts.items))) ≡ is_safe l.outer (sequence (map stmt_of l.stmts.items))
