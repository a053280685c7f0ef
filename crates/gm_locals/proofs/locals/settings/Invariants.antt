use Rattle.std.proofs.Common.{◌≡◌, ◌+◌, ◌++◌, drop, length, map}
use Rattle.gm_ast.specs.Tree.{stmt_of}
use Rattle.gm_locals.specs.AllMoved.{settings}
use Rattle.gm_locals.proofs.locals.settings.Given as goal

-- the loops that are there and those that are left make the whole
abbrev pub invariant-loop-local : goal.invariant-loop-local
invariant-loop-local l = map stmt_of l.stmts.items ++ settings (l.first + length (map stmt_of l.stmts.items)) (drop l.local-index l.locals) l.place l.head ≡ settings l.first l.locals l.place l.head
