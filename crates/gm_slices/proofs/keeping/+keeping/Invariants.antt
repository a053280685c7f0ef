use Rattle.std.proofs.Common.{◌≡◌, ◌<◌, ◌≤◌, ℕ, [], ◌∷◌, length, get_or, map}
use Rattle.gm_ast.specs.declared.tree.Stmt as S
use Rattle.gm_ast.specs.Tree.{stmt_of}
use Rattle.gm_slices.specs.Sets.{set_of}
use Rattle.gm_slices.proofs.Wanted.{Reached}
use Rattle.gm_slices.proofs.keeping.+keeping.Given as goal

-- the statements before stand as they are, those behind as far as they serve, and what those need is gathered
abbrev pub invariant-keep_all-loop-left : goal.invariant-keep_all-loop-left
invariant-keep_all-loop-left l =
    (l.left ≤ length l.stmts.items) × (length l.stmts.items ≡ length l.initial.stmts.items) × ((k : ℕ) (d : S.Stmt) → k < l.left → get_or l.stmts.items k d ≡ get_or l.initial.stmts.items k d)
    × Reached l.fn.declarations (l.fn.ends.outer ∷ l.fn.ends.inner ∷ []) l.fn.ends.outer l.fn.new (set_of l.initial.needs) stmt_of (map stmt_of l.initial.stmts.items) l.stmts.items l.left (set_of l.needs)

abbrev pub decreases-keep_all-loop-left : goal.decreases-keep_all-loop-left
decreases-keep_all-loop-left l = l.left
