use Rattle.std.proofs.Common.{◌≡◌, drop, map}
use Rattle.gm_ast.specs.Program.{sequence}
use Rattle.gm_ast.specs.Tree.{stmt_of}
use Rattle.gm_loops.specs.Asking.{goes_outward}
use Rattle.gm_loops.proofs.asking.+going.Given as goal

-- what is left of the block decides
abbrev pub invariant-go_outward-loop-stmt : goal.invariant-go_outward-loop-stmt
invariant-go_outward-loop-stmt l = goes_outward (sequence (map stmt_of (drop l.stmt-index l.stmts.items))) ≡ goes_outward (sequence (map stmt_of l.stmts.items))
