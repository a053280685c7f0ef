use Rattle.std.proofs.Common.{◌≡◌, drop, map}
use Rattle.gm_ast.specs.Program.{sequence}
use Rattle.gm_ast.specs.Tree.{stmt_of}
use Rattle.gm_lowering.specs.Plans.{is_nothing}
use Rattle.gm_message.proofs.inner.+idle.Given as goal

-- what is left of the block decides
abbrev pub invariant-are_nothing-loop-stmt : goal.invariant-are_nothing-loop-stmt
invariant-are_nothing-loop-stmt l = is_nothing (sequence (map stmt_of (drop l.stmt-index l.stmts.items))) ≡ is_nothing (sequence (map stmt_of l.stmts.items))
