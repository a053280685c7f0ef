-- Whether each inner loop that is the body of a loop goes one way.
use Rattle.std.specs.Prelude.{ℕ, Bool, true, List}
use Rattle.gm_base.specs.declared.places.Place.{Place}
use Rattle.gm_ast.specs.declared.tree.Declaration.{Declaration}
use Rattle.gm_ast.specs.declared.tree.Head.{Head}
use Rattle.gm_ast.specs.declared.tree.Key.{Key}
use Rattle.gm_ast.specs.Program.{Expr, Stmt, Foreach, Program}
use Rattle.gm_cut.specs.Parts.{each_passes}
use Rattle.gm_cut.specs.Slices.{goes_one_way}

-- whether the body of a loop is no inner loop, or one that goes one way. n: the iterator of the loop
abbrev pub goes_within : List Declaration → ℕ → Stmt → Bool
goes_within ds n (Foreach j here inner test body) = goes_one_way ds n inner test body
goes_within ds n body = true

-- whether that of each loop of a program is
abbrev pub inner_loop_goes : List Declaration → Key → Place → Head → Expr → Stmt → Bool
inner_loop_goes ds k at h mask body = goes_within ds h.iterator body

abbrev pub has_loops_of_one_way : Program → Bool
has_loops_of_one_way p = each_passes (inner_loop_goes p.declarations) p.body
