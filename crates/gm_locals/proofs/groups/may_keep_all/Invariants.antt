use Rattle.std.proofs.Common.{◌≡◌, drop}
use Rattle.std.specs.List.{list_all}
use Rattle.gm_ast.specs.Tree.{expr_of, stmt_of}
use Rattle.gm_locals.specs.Groups.{may_keep}
use Rattle.gm_locals.proofs.groups.may_keep_all.Given as goal

-- the locals that are left give the answer
abbrev pub invariant-loop-local : goal.invariant-loop-local
invariant-loop-local l =
    list_all (may_keep l.declarations l.locals l.fn.iterator (expr_of l.test) (stmt_of l.body)) (drop l.local-index l.locals) ≡ list_all (may_keep l.declarations l.locals l.fn.iterator (expr_of l.test) (stmt_of l.body)) l.locals
