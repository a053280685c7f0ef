use Rattle.std.proofs.Common.{◌≡◌, ◌∷◌, [], drop, map}
use Rattle.gm_ast.specs.Program.{sequence}
use Rattle.gm_ast.specs.Tree.{stmt_of}
use Rattle.gm_slices.specs.Keeping.{may_serve_again}
use Rattle.gm_slices.proofs.keeping.+serving.Given as goal

-- what is left of the block decides
abbrev pub invariant-any_may_serve_again-loop-stmt : goal.invariant-any_may_serve_again-loop-stmt
invariant-any_may_serve_again-loop-stmt l =
    may_serve_again l.fn.declarations (l.fn.ends.outer ∷ l.fn.ends.inner ∷ []) l.fn.ends.outer (sequence (map stmt_of (drop l.stmt-index l.stmts.items)))
    ≡ may_serve_again l.fn.declarations (l.fn.ends.outer ∷ l.fn.ends.inner ∷ []) l.fn.ends.outer (sequence (map stmt_of l.stmts.items))
