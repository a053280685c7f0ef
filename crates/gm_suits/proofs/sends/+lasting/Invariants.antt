use Rattle.std.proofs.Common.{◌≡◌, drop, map}
use Rattle.gm_ast.specs.Program.{sequence}
use Rattle.gm_ast.specs.Tree.{stmt_of}
use Rattle.gm_plain_loops.specs.Tests.{sends_last}
use Rattle.gm_suits.proofs.sends.+lasting.Given as goal

-- what is left of the block decides, behind what has sent so far
abbrev pub invariant-send_last-loop-stmt : goal.invariant-send_last-loop-stmt
invariant-send_last-loop-stmt l =
    sends_last l.fn.declarations l.fn.node l.sent (sequence (map stmt_of (drop l.stmt-index l.stmts.items))) ≡ sends_last l.fn.declarations l.fn.node l.fn.before (sequence (map stmt_of l.stmts.items))
