use Rattle.std.proofs.Common.{◌≡◌, ◌∷◌, [], ◌++◌, map, length}
use Rattle.std.specs.Prelude.{filter}
use Rattle.std.specs.Vec.Iter.{into_iter_items, into_iter_len}
use Rattle.gm_ast.specs.Tree.{stmt_of}
use Rattle.gm_slices.specs.Keeping.{may_serve_again}
use Rattle.gm_slices.proofs.slices.keep_done.Given as goal

-- what is there and what is left make the whole
abbrev pub invariant-loop-stmt : goal.invariant-loop-stmt
invariant-loop-stmt l =
    (map stmt_of l.done.items ++ filter (may_serve_again l.fn.declarations (l.fn.ends.outer ∷ l.fn.ends.inner ∷ []) l.fn.ends.outer) (map stmt_of (into_iter_items l.stmt-iterator))
    ≡ map stmt_of l.initial.done.items ++ filter (may_serve_again l.fn.declarations (l.fn.ends.outer ∷ l.fn.ends.inner ∷ []) l.fn.ends.outer) (map stmt_of (into_iter_items l.initial.stmt-iterator)))
    × (into_iter_len l.stmt-iterator ≡ length (into_iter_items l.stmt-iterator))
