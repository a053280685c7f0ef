-- The kinds of one reduction and of one inner loop.
use Rattle.std.specs.Prelude.{ℕ, if◌then◌else◌, List, [], ◌∷◌, map}
use Rattle.gm_ast.specs.declared.tree.Declaration.{Declaration}
use Rattle.gm_ast.specs.declared.tree.Head.{Head}
use Rattle.gm_ast.specs.declared.tree.Target.{Target}
use Rattle.gm_ast.specs.Program.{Expr, Stmt}
use Rattle.gm_forms.specs.Typing.{target_type}
use Rattle.gm_lowering.specs.Plans.{KindPlan, Way, Sends, is_here, carried, aways, kind_of_away, kind_of_loads}

-- the kind of a reduction that is done in a way
abbrev pub kinds_by : Way → List Declaration → List Target → List KindPlan
kinds_by Sends ds ts = record { carried = []; values = map (target_type ds) ts } ∷ []
kinds_by _ ds ts = []

-- the kinds of an inner loop, by the outer iterator
abbrev pub kinds_of_inner : List Declaration → ℕ → Head → Expr → Stmt → List KindPlan
kinds_of_inner ds n h test body =
    if is_here ds n h test body then map (kind_of_away ds) (aways ds n body)
    else kind_of_loads ds (carried n test body) ∷ map (kind_of_away ds) (aways ds h.iterator body)
