use Rattle.std.proofs.Common.{◌≡◌, ◌++◌, drop, map}
use Rattle.gm_ast.specs.Program.{sequence}
use Rattle.gm_ast.specs.Tree.{stmt_of}
use Rattle.gm_dissect.specs.Conditions.{numbers_of}
use Rattle.gm_dissect.proofs.conditions.+listing.Given as goal

-- what is there and what is left make the whole
abbrev pub invariant-list_block-loop-stmt : goal.invariant-list_block-loop-stmt
invariant-list_block-loop-stmt l =
    l.numbers.items ++ numbers_of l.outer (sequence (map stmt_of (drop l.stmt-index l.stmts.items))) ≡ l.initial.numbers.items ++ numbers_of l.outer (sequence (map stmt_of l.stmts.items))
