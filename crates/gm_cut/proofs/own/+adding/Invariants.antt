use Rattle.std.proofs.Common.{◌≡◌, drop, map}
use Rattle.gm_ast.specs.Program.{sequence}
use Rattle.gm_ast.specs.Tree.{stmt_of}
use Rattle.gm_cut.specs.Own.{adds_beyond}
use Rattle.gm_cut.proofs.own.+adding.Given as goal

-- what is left of the block decides
abbrev pub invariant-any_adds-loop-stmt : goal.invariant-any_adds-loop-stmt
invariant-any_adds-loop-stmt l = adds_beyond l.outer (sequence (map stmt_of (drop l.stmt-index l.stmts.items))) ≡ adds_beyond l.outer (sequence (map stmt_of l.stmts.items))
