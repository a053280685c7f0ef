use Rattle.std.proofs.Common.{◌≡◌, drop, map}
use Rattle.gm_ast.specs.Program.{sequence}
use Rattle.gm_ast.specs.Tree.{stmt_of}
use Rattle.gm_lowering.specs.Plans.{gives_nothing}
use Rattle.gm_message.proofs.inner.+keeping.Given as goal

-- what is left of the block decides
abbrev pub invariant-give_nothing-loop-stmt : goal.invariant-give_nothing-loop-stmt
invariant-give_nothing-loop-stmt l =
    gives_nothing l.fn.declarations (sequence (map stmt_of (drop l.stmt-index l.stmts.items))) ≡ gives_nothing l.fn.declarations (sequence (map stmt_of l.stmts.items))
