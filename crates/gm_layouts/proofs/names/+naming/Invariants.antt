use Rattle.std.proofs.Common.{◌≡◌, ◌++◌, drop, map}
use Rattle.gm_ast.specs.Program.{sequence}
use Rattle.gm_ast.specs.Tree.{stmt_of}
use Rattle.gm_layouts.specs.Named.{names_of}
use Rattle.gm_layouts.proofs.names.+naming.Given as goal

-- what is there and what is left make the whole
abbrev pub invariant-add_block-loop-stmt : goal.invariant-add_block-loop-stmt
invariant-add_block-loop-stmt l =
    l.names.items ++ names_of (sequence (map stmt_of (drop l.stmt-index l.stmts.items))) ≡ l.initial.names.items ++ names_of (sequence (map stmt_of l.stmts.items))
