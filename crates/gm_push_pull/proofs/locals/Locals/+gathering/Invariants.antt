use Rattle.std.proofs.Common.{drop, map}
use Rattle.gm_ast.specs.Program.{sequence}
use Rattle.gm_ast.specs.Tree.{stmt_of}
use Rattle.gm_ast.specs.Ways.{locals}
use Rattle.gm_push_pull.specs.declared.locals.Locals.{Locals}
use Rattle.gm_push_pull.specs.Locals.{Gathers}
use Rattle.gm_push_pull.proofs.locals.Locals.+gathering.Given as goal

-- what is declared so far, with what is left, is all that is declared
abbrev pub invariant-gather_all-loop-stmt : goal.invariant-gather_all-loop-stmt
invariant-gather_all-loop-stmt l = (new : Locals) → Gathers l.self new (locals (sequence (map stmt_of (drop l.stmt-index l.stmts.items)))) → Gathers l.fn.self new (locals (sequence (map stmt_of l.stmts.items)))
