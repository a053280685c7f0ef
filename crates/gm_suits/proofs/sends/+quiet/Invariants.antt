use Rattle.std.proofs.Common.{◌≡◌, drop, map}
use Rattle.gm_ast.specs.Program.{sequence}
use Rattle.gm_ast.specs.Tree.{stmt_of}
use Rattle.gm_plain_loops.specs.Tests.{is_quiet}
use Rattle.gm_suits.proofs.sends.+quiet.Given as goal

-- what is left of the block decides
abbrev pub invariant-are_quiet-loop-stmt : goal.invariant-are_quiet-loop-stmt
invariant-are_quiet-loop-stmt l =
    is_quiet l.fn.declarations l.fn.node (sequence (map stmt_of (drop l.stmt-index l.stmts.items))) ≡ is_quiet l.fn.declarations l.fn.node (sequence (map stmt_of l.stmts.items))
