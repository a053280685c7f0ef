use Rattle.std.proofs.Common.{◌≡◌, drop, map}
use Rattle.gm_ast.specs.Program.{sequence}
use Rattle.gm_ast.specs.Tree.{stmt_of}
use Rattle.gm_semantics.specs.Loops.{pushes}
use Rattle.gm_loops.proofs.around.+pushing.Given as goal

-- what is left of the block decides
abbrev pub invariant-pushes_among-loop-stmt : goal.invariant-pushes_among-loop-stmt
invariant-pushes_among-loop-stmt l = pushes (sequence (map stmt_of (drop l.stmt-index l.stmts.items))) l.outer l.property ≡ pushes (sequence (map stmt_of l.stmts.items)) l.outer l.property
