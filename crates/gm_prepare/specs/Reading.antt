-- Nodes that are read first, as the walk asks it.
use Rattle.std.specs.Prelude.{ℕ, zero, true, if◌then◌else◌, List, Option, Some, None}
use Rattle.gm_base.specs.declared.places.Place.{Place}
use Rattle.gm_ast.specs.declared.tree.Declaration.{Declaration}
use Rattle.gm_ast.specs.Program.{Expr, Var, Stmt}
use Rattle.gm_forms.specs.Cut.{is_own_loop}
use Rattle.gm_parting.specs.Nodes.{is_body_local, nodes_read}

-- the read of a variable, if it is a scalar of an outer body
abbrev pub read_of : List Declaration → ℕ → Place → Option Expr
read_of ds x at = if is_body_local ds x then Some (Var x at) else None

-- the body of a loop that reads its nodes first, if it is not of own statements
abbrev pub loop_read : List Declaration → ℕ → ℕ → ℕ → Stmt → Stmt
loop_read ds first deep n body = if is_own_loop n body then body else nodes_read ds true first deep zero body
