use Rattle.std.proofs.Common.{◌≡◌, drop, map}
use Rattle.gm_ast.specs.Program.{sequence}
use Rattle.gm_ast.specs.Tree.{stmt_of}
use Rattle.gm_dissect.specs.Locals.{declares}
use Rattle.gm_locals.proofs.groups.+declaring.Given as goal

-- what is left of the block decides
abbrev pub invariant-declares_among-loop-stmt : goal.invariant-declares_among-loop-stmt
invariant-declares_among-loop-stmt l = declares l.variable (sequence (map stmt_of (drop l.stmt-index l.stmts.items))) ≡ declares l.variable (sequence (map stmt_of l.stmts.items))
