use Rattle.std.proofs.Common.{◌≡◌, drop, map}
use Rattle.gm_ast.specs.Program.{sequence}
use Rattle.gm_ast.specs.Tree.{stmt_of}
use Rattle.gm_dissect.specs.Deferred.{defers}
use Rattle.gm_dissect.proofs.deferred.+deferring.Given as goal

-- what is left of the block decides
abbrev pub invariant-defers_among-loop-stmt : goal.invariant-defers_among-loop-stmt
invariant-defers_among-loop-stmt l = defers l.property (sequence (map stmt_of (drop l.stmt-index l.stmts.items))) ≡ defers l.property (sequence (map stmt_of l.stmts.items))
