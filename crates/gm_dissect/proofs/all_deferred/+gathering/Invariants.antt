use Rattle.std.proofs.Common.{◌≡◌, ◌++◌, drop, map}
use Rattle.gm_ast.specs.Program.{sequence}
use Rattle.gm_ast.specs.Tree.{stmt_of}
use Rattle.gm_dissect.specs.AllDeferred.{deferred_of}
use Rattle.gm_dissect.proofs.all_deferred.+gathering.Given as goal

-- what is there and what is left make the whole
abbrev pub invariant-gather_block-loop-stmt : goal.invariant-gather_block-loop-stmt
invariant-gather_block-loop-stmt l =
    l.properties.items ++ deferred_of (sequence (map stmt_of (drop l.stmt-index l.stmts.items))) ≡ l.initial.properties.items ++ deferred_of (sequence (map stmt_of l.stmts.items))
