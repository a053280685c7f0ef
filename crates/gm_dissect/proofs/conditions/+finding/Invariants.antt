use Rattle.std.proofs.Common.{◌≡◌, ◌++◌, drop, map}
use Rattle.gm_ast.specs.Program.{sequence}
use Rattle.gm_ast.specs.Tree.{stmt_of}
use Rattle.gm_dissect.specs.Conditions.{numbers_in}
use Rattle.gm_dissect.proofs.conditions.+finding.Given as goal

-- what is there and what is left make the whole
abbrev pub invariant-find_all-loop-stmt : goal.invariant-find_all-loop-stmt
invariant-find_all-loop-stmt l =
    l.numbers.items ++ numbers_in (sequence (map stmt_of (drop l.stmt-index l.stmts.items))) ≡ l.initial.numbers.items ++ numbers_in (sequence (map stmt_of l.stmts.items))
