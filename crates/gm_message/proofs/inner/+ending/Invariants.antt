use Rattle.std.proofs.Common.{◌≡◌, false, true, drop, map}
use Rattle.gm_ast.specs.Tree.{stmt_of}
use Rattle.gm_message.specs.Lasts.{continued}
use Rattle.gm_message.proofs.inner.+ending.Given as goal

-- what is left of the block gives the answer
abbrev pub invariant-ends_giving-loop-stmt : goal.invariant-ends_giving-loop-stmt
invariant-ends_giving-loop-stmt l =
    continued l.fn.declarations l.fn.iterator l.last l.quiet (map stmt_of (drop l.stmt-index l.stmts.items)) ≡ continued l.fn.declarations l.fn.iterator false true (map stmt_of l.stmts.items)
