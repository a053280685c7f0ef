use Rattle.std.proofs.Common.{◌≡◌, drop, map}
use Rattle.gm_ast.specs.Program.{sequence}
use Rattle.gm_ast.specs.Tree.{stmt_of}
use Rattle.gm_locals.specs.Groups.{may_move_within}
use Rattle.gm_locals.proofs.plain.+moving.Given as goal

-- what is left of the block decides
abbrev pub invariant-may_move_among-loop-stmt : goal.invariant-may_move_among-loop-stmt
invariant-may_move_among-loop-stmt l = may_move_within l.locals l.variable l.outer (sequence (map stmt_of (drop l.stmt-index l.stmts.items))) ≡ may_move_within l.locals l.variable l.outer (sequence (map stmt_of l.stmts.items))
