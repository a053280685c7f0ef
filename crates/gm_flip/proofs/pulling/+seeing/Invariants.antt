use Rattle.std.proofs.Common.{◌≡◌, drop, map}
use Rattle.gm_ast.specs.Program.{sequence}
use Rattle.gm_ast.specs.Tree.{stmt_of}
use Rattle.gm_flip.specs.Pulling.{sees}
use Rattle.gm_flip.proofs.pulling.+seeing.Given as goal

-- what is left of the block decides
abbrev pub invariant-all_see-loop-stmt : goal.invariant-all_see-loop-stmt
invariant-all_see-loop-stmt l = sees l.fn.iterators l.fn.edge (sequence (map stmt_of (drop l.stmt-index l.stmts.items))) ≡ sees l.fn.iterators l.fn.edge (sequence (map stmt_of l.stmts.items))
