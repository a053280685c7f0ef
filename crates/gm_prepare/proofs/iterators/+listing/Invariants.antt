use Rattle.std.proofs.Common.{◌≡◌, ◌++◌, drop, map}
use Rattle.gm_ast.specs.Program.{sequence}
use Rattle.gm_ast.specs.Tree.{stmt_of}
use Rattle.gm_parting.specs.Iterators.{inner_iterators}
use Rattle.gm_prepare.proofs.iterators.+listing.Given as goal

-- what is there and what is left make the whole
abbrev pub invariant-list_block-loop-stmt : goal.invariant-list_block-loop-stmt
invariant-list_block-loop-stmt l = l.inners.items ++ inner_iterators (sequence (map stmt_of (drop l.stmt-index l.stmts.items))) ≡ l.initial.inners.items ++ inner_iterators (sequence (map stmt_of l.stmts.items))
