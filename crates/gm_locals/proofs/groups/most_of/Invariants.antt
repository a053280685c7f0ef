use Rattle.std.proofs.Common.{◌≡◌, ◌-◌}
use Rattle.gm_ast.specs.Tree.{expr_of, stmt_of}
use Rattle.gm_locals.specs.AllGroups.{most_of}
use Rattle.gm_locals.proofs.groups.most_of.Given as goal

-- the rounds that are left lead to the same locals
abbrev pub invariant-loop-round : goal.invariant-loop-round
invariant-loop-round l =
    most_of (l.rounds - l._round) l.declarations l.fn.iterator (expr_of l.test) (stmt_of l.body) l.locals.items ≡ most_of l.rounds l.declarations l.fn.iterator (expr_of l.test) (stmt_of l.body) l.fn.locals.items
