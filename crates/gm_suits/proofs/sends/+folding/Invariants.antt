use Rattle.std.proofs.Common.{◌≡◌, drop, map}
use Rattle.gm_ast.specs.Program.{sequence}
use Rattle.gm_ast.specs.Tree.{stmt_of}
use Rattle.gm_plain_loops.specs.Tests.{folds_first}
use Rattle.gm_suits.proofs.sends.+folding.Given as goal

-- what is left of the block decides
abbrev pub invariant-fold_first-loop-stmt : goal.invariant-fold_first-loop-stmt
invariant-fold_first-loop-stmt l =
    folds_first l.fn.declarations l.fn.node (stmt_of l.fn.body) (sequence (map stmt_of (drop l.stmt-index l.stmts.items))) ≡ folds_first l.fn.declarations l.fn.node (stmt_of l.fn.body) (sequence (map stmt_of l.stmts.items))
