use Rattle.std.proofs.Common.{◌≡◌, drop, map}
use Rattle.gm_ast.specs.Program.{sequence}
use Rattle.gm_ast.specs.Tree.{stmt_of}
use Rattle.gm_forms.specs.Forms.{is_inner_body}
use Rattle.gm_facts.proofs.ways.+inner.Given as goal

-- what is left of the block decides
abbrev pub invariant-are_inner-loop-stmt : goal.invariant-are_inner-loop-stmt
invariant-are_inner-loop-stmt l =
    is_inner_body l.fn.declarations l.fn.iterators l.fn.edge (sequence (map stmt_of (drop l.stmt-index l.stmts.items)))
    ≡ is_inner_body l.fn.declarations l.fn.iterators l.fn.edge (sequence (map stmt_of l.stmts.items))
