use Rattle.std.proofs.Common.{◌≡◌, length}
use Rattle.gm_ast.specs.Tree.{stmt_of}
use Rattle.gm_parting.specs.Declared.{declared_first}
use Rattle.gm_prepare.proofs.declared.declare_first.Given as goal

-- the locals that are left are still to be declared before the body
abbrev pub invariant-declaring : goal.invariant-declaring
invariant-declaring l = declared_first l.key l.place l.locals.items (stmt_of l.body) ≡ declared_first l.key l.place l.fn.locals.items (stmt_of l.initial.body)

abbrev pub decreases-declaring : goal.decreases-declaring
decreases-declaring l = length l.locals.items
