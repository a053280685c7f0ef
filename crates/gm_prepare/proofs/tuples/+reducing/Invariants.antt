use Rattle.std.proofs.Common.{◌≡◌, drop, map}
use Rattle.gm_ast.specs.Program.{sequence}
use Rattle.gm_ast.specs.Tree.{stmt_of}
use Rattle.gm_parting.specs.Tuples.{reduces_evenly}
use Rattle.gm_prepare.proofs.tuples.+reducing.Given as goal

-- what is left of the block decides
abbrev pub invariant-reduce_evenly-loop-stmt : goal.invariant-reduce_evenly-loop-stmt
invariant-reduce_evenly-loop-stmt l =
    reduces_evenly l.declarations (sequence (map stmt_of (drop l.stmt-index l.stmts.items))) ≡ reduces_evenly l.declarations (sequence (map stmt_of l.stmts.items))
