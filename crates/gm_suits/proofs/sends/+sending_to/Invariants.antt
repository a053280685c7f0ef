use Rattle.std.proofs.Common.{◌≡◌, drop, map}
use Rattle.gm_ast.specs.Program.{sequence}
use Rattle.gm_ast.specs.Tree.{stmt_of}
use Rattle.gm_plain_loops.specs.Tests.{sends_upto}
use Rattle.gm_suits.proofs.sends.+sending_to.Given as goal

-- what is left of the block decides
abbrev pub invariant-some_send_upto-loop-stmt : goal.invariant-some_send_upto-loop-stmt
invariant-some_send_upto-loop-stmt l =
    sends_upto l.fn.declarations l.fn.node l.fn.property l.fn.number (sequence (map stmt_of (drop l.stmt-index l.stmts.items))) ≡ sends_upto l.fn.declarations l.fn.node l.fn.property l.fn.number (sequence (map stmt_of l.stmts.items))
