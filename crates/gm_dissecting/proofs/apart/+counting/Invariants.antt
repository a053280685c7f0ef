use Rattle.std.proofs.Common.{◌≡◌, ◌+◌, drop, map}
use Rattle.gm_ast.specs.Program.{sequence}
use Rattle.gm_ast.specs.Tree.{stmt_of}
use Rattle.gm_parting.specs.Numbers.{count_ifs}
use Rattle.gm_dissecting.proofs.apart.+counting.Given as goal

-- what is counted and what is left make the whole
abbrev pub invariant-count_all-loop-stmt : goal.invariant-count_all-loop-stmt
invariant-count_all-loop-stmt l = l.count + count_ifs (sequence (map stmt_of (drop l.stmt-index l.stmts.items))) ≡ count_ifs (sequence (map stmt_of l.stmts.items))
