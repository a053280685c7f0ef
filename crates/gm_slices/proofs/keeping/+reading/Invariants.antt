use Rattle.std.proofs.Common.{◌≡◌, ◌∷◌, [], drop, map}
use Rattle.gm_ast.specs.Program.{sequence}
use Rattle.gm_ast.specs.Tree.{stmt_of}
use Rattle.gm_slices.specs.Keeping.{with_read}
use Rattle.gm_slices.specs.Sets.{set_of}
use Rattle.gm_slices.proofs.keeping.+reading.Given as goal

-- what is left of the block makes the same of what is there
abbrev pub invariant-read_all-loop-stmt : goal.invariant-read_all-loop-stmt
invariant-read_all-loop-stmt l =
    with_read l.fn.declarations (l.fn.ends.outer ∷ l.fn.ends.inner ∷ []) l.fn.ends.outer (sequence (map stmt_of (drop l.stmt-index l.stmts.items))) (set_of l.needs)
    ≡ with_read l.fn.declarations (l.fn.ends.outer ∷ l.fn.ends.inner ∷ []) l.fn.ends.outer (sequence (map stmt_of l.stmts.items)) (set_of l.initial.needs)
