-- Bodies that declare the locals that they name, as the walk makes them.
use Rattle.std.specs.Prelude.{ℕ, if◌then◌else◌, List, [], filter, Option, Some, None}
use Rattle.gm_base.specs.declared.places.Place.{Place}
use Rattle.gm_ast.specs.declared.tree.Declaration.{Declaration}
use Rattle.gm_ast.specs.declared.tree.Expr as E
use Rattle.gm_ast.specs.declared.tree.Key.{Key}
use Rattle.gm_ast.specs.Program.{Stmt}
use Rattle.gm_ast.specs.Tree.{expr_of}
use Rattle.gm_forms.specs.Cut.{is_own_loop}
use Rattle.gm_forms.specs.Sharing.{told_in}
use Rattle.gm_parting.specs.Declared.{declared_first, is_undeclared, names_of}

-- the variables that a value tells, if there is one
abbrev pub told_in_option : Option E.Expr → List ℕ
told_in_option None = []
told_in_option (Some e) = told_in (expr_of e)

-- the body of a loop over nodes n that declares all locals that it names, if it is not of own statements
abbrev pub body_declared : List Declaration → Key → Place → ℕ → Stmt → Stmt
body_declared ds k at n body = if is_own_loop n body then body else declared_first k at (filter (is_undeclared ds body) (names_of body)) body
