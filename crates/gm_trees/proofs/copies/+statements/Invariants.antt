use Rattle.std.proofs.Common.{◌≡◌, ◌++◌, drop, map}
use Rattle.gm_ast.specs.Tree.{stmt_of}
use Rattle.gm_trees.proofs.copies.+statements.Given as goal

-- what is there and what is left make the whole
abbrev pub invariant-copy_all-loop-stmt : goal.invariant-copy_all-loop-stmt
invariant-copy_all-loop-stmt l = map stmt_of l.list.items ++ map stmt_of (drop l.stmt-index l.stmts.items) ≡ map stmt_of l.initial.list.items ++ map stmt_of l.stmts.items
