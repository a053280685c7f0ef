use Rattle.std.proofs.Common.{◌≡◌, ◌++◌, drop, map}
use Rattle.gm_ast.specs.Program.{sequence}
use Rattle.gm_ast.specs.Tree.{stmt_of}
use Rattle.gm_dissect.specs.AllDeferred.{deferred_in}
use Rattle.gm_dissect.proofs.all_deferred.+finding.Given as goal

-- what is there and what is left make the whole
abbrev pub invariant-gather_all-loop-stmt : goal.invariant-gather_all-loop-stmt
invariant-gather_all-loop-stmt l =
    l.properties.items ++ deferred_in (sequence (map stmt_of (drop l.stmt-index l.stmts.items))) ≡ l.initial.properties.items ++ deferred_in (sequence (map stmt_of l.stmts.items))
