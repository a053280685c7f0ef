use Rattle.std.proofs.Common.{◌≡◌, drop, map}
use Rattle.gm_ast.specs.Program.{sequence}
use Rattle.gm_ast.specs.Tree.{stmt_of}
use Rattle.gm_dissect.specs.AllDeferred.{some_defers}
use Rattle.gm_dissect.proofs.all_deferred.+asking.Given as goal

-- what is left of the block decides
abbrev pub invariant-some_among-loop-stmt : goal.invariant-some_among-loop-stmt
invariant-some_among-loop-stmt l = some_defers l.property (sequence (map stmt_of (drop l.stmt-index l.stmts.items))) ≡ some_defers l.property (sequence (map stmt_of l.stmts.items))
