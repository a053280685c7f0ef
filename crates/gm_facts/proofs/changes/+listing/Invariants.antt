use Rattle.std.proofs.Common.{◌≡◌, ◌++◌, drop, map}
use Rattle.gm_ast.specs.Program.{sequence}
use Rattle.gm_ast.specs.Tree.{stmt_of}
use Rattle.gm_forms.specs.Cut.{touched}
use Rattle.gm_facts.proofs.changes.+listing.Given as goal

-- what is there and what is left make the whole
abbrev pub invariant-list_block-loop-stmt : goal.invariant-list_block-loop-stmt
invariant-list_block-loop-stmt l =
    l.variables.items ++ touched (sequence (map stmt_of (drop l.stmt-index l.stmts.items))) ≡ l.initial.variables.items ++ touched (sequence (map stmt_of l.stmts.items))
