use Rattle.std.proofs.Common.{◌≡◌, ◌++◌, drop, map}
use Rattle.gm_ast.specs.Program.{sequence}
use Rattle.gm_ast.specs.Tree.{stmt_of}
use Rattle.gm_parting.specs.Iterators.{all_inner_iterators}
use Rattle.gm_prepare.proofs.iterators.+gathering.Given as goal

-- what is there and what is left make the whole
abbrev pub invariant-gather_all-loop-stmt : goal.invariant-gather_all-loop-stmt
invariant-gather_all-loop-stmt l = l.inners.items ++ all_inner_iterators (sequence (map stmt_of (drop l.stmt-index l.stmts.items))) ≡ l.initial.inners.items ++ all_inner_iterators (sequence (map stmt_of l.stmts.items))
