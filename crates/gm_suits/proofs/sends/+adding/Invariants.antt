use Rattle.std.proofs.Common.{◌≡◌, drop, map}
use Rattle.gm_ast.specs.Program.{sequence}
use Rattle.gm_ast.specs.Tree.{stmt_of}
use Rattle.gm_plain_loops.specs.Tests.{adds_any}
use Rattle.gm_suits.proofs.sends.+adding.Given as goal

-- what is left of the block decides
abbrev pub invariant-some_adds-loop-stmt : goal.invariant-some_adds-loop-stmt
invariant-some_adds-loop-stmt l =
    adds_any l.fn.declarations l.fn.node (sequence (map stmt_of (drop l.stmt-index l.stmts.items))) ≡ adds_any l.fn.declarations l.fn.node (sequence (map stmt_of l.stmts.items))
