use Rattle.std.proofs.Common.{◌≡◌, ◌∷◌, [], drop, map}
use Rattle.gm_ast.specs.Program.{sequence}
use Rattle.gm_ast.specs.Tree.{stmt_of}
use Rattle.gm_slices.specs.Keeping.{sets}
use Rattle.gm_slices.specs.Sets.{set_of}
use Rattle.gm_slices.proofs.keeping.+writing.Given as goal

-- what is left of the block decides
abbrev pub invariant-any_sets-loop-stmt : goal.invariant-any_sets-loop-stmt
invariant-any_sets-loop-stmt l =
    sets l.fn.declarations (l.fn.ends.outer ∷ l.fn.ends.inner ∷ []) l.fn.ends.outer (set_of l.fn.members) (sequence (map stmt_of (drop l.stmt-index l.stmts.items)))
    ≡ sets l.fn.declarations (l.fn.ends.outer ∷ l.fn.ends.inner ∷ []) l.fn.ends.outer (set_of l.fn.members) (sequence (map stmt_of l.stmts.items))
