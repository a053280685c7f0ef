use Rattle.std.proofs.Common.{◌≡◌, drop, map}
use Rattle.gm_ast.specs.Program.{sequence}
use Rattle.gm_ast.specs.Tree.{stmt_of}
use Rattle.gm_outward.specs.Gathered.{is_idle}
use Rattle.gm_outward.proofs.gathered.+idle.Given as goal

-- what is left of the block decides
abbrev pub invariant-are_idle-loop-stmt : goal.invariant-are_idle-loop-stmt
invariant-are_idle-loop-stmt l = is_idle (sequence (map stmt_of (drop l.stmt-index l.stmts.items))) ≡ is_idle (sequence (map stmt_of l.stmts.items))
