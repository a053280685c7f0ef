use Rattle.std.proofs.Common.{◌≡◌, ◌++◌, drop}
use Rattle.std.specs.Prelude.{filter}
use Rattle.gm_ast.specs.Tree.{expr_of, stmt_of}
use Rattle.gm_locals.specs.Groups.{may_keep}
use Rattle.gm_locals.proofs.groups.those_kept.Given as goal

-- those that are kept so far and those of what is left make the whole
abbrev pub invariant-loop-local : goal.invariant-loop-local
invariant-loop-local l =
    l.kept.items ++ filter (may_keep l.declarations l.locals l.fn.iterator (expr_of l.test) (stmt_of l.body)) (drop l.local-index l.locals) ≡ filter (may_keep l.declarations l.locals l.fn.iterator (expr_of l.test) (stmt_of l.body)) l.locals
