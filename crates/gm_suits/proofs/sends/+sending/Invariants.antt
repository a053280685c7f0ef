use Rattle.std.proofs.Common.{◌≡◌, drop, map}
use Rattle.gm_ast.specs.Program.{sequence}
use Rattle.gm_ast.specs.Tree.{stmt_of}
use Rattle.gm_plain_loops.specs.Tests.{sends_any}
use Rattle.gm_suits.proofs.sends.+sending.Given as goal

-- what is left of the block decides
abbrev pub invariant-some_sends-loop-stmt : goal.invariant-some_sends-loop-stmt
invariant-some_sends-loop-stmt l =
    sends_any l.fn.declarations l.fn.node (sequence (map stmt_of (drop l.stmt-index l.stmts.items))) ≡ sends_any l.fn.declarations l.fn.node (sequence (map stmt_of l.stmts.items))
