use Rattle.std.proofs.Common.{◌≡◌, ◌++◌, drop, map}
use Rattle.gm_ast.specs.Program.{sequence}
use Rattle.gm_ast.specs.Tree.{stmt_of}
use Rattle.gm_parting.specs.Declared.{names_of}
use Rattle.gm_prepare.proofs.declared.+naming.Given as goal

-- what is there and what is left make the whole
abbrev pub invariant-list_block-loop-stmt : goal.invariant-list_block-loop-stmt
invariant-list_block-loop-stmt l = l.names.items ++ names_of (sequence (map stmt_of (drop l.stmt-index l.stmts.items))) ≡ l.initial.names.items ++ names_of (sequence (map stmt_of l.stmts.items))
