-- Whether the targets of each reduction of a loop are declared inside as many loops, as the walk asks it.
use Rattle.std.specs.Prelude.{Bool, ◌||◌, List}
use Rattle.gm_base.specs.declared.places.Place.{Place}
use Rattle.gm_ast.specs.declared.tree.Declaration.{Declaration}
use Rattle.gm_ast.specs.declared.tree.Head.{Head}
use Rattle.gm_ast.specs.declared.tree.Key.{Key}
use Rattle.gm_ast.specs.Program.{Expr, Stmt}
use Rattle.gm_forms.specs.Cut.{is_own_loop}
use Rattle.gm_parting.specs.Tuples.{reduces_evenly}

-- a loop is of own statements, or those of its reductions are
abbrev pub is_even : List Declaration → Key → Place → Head → Expr → Stmt → Bool
is_even ds k at h test body = is_own_loop h.iterator body || reduces_evenly ds body
