use Rattle.std.proofs.Common.{map, drop}
use Rattle.gm_ast.specs.Program.{sequence}
use Rattle.gm_ast.specs.Accesses.{accesses_of, loops_of}
use Rattle.gm_ast.specs.Tree.{stmt_of}
use Rattle.gm_race.specs.Walks.{Walks}
use Rattle.gm_race.proofs.walks.Walker.+walking.Given as goal

-- the statements so far are walked over
abbrev pub invariant-block-loop-stmt : goal.invariant-block-loop-stmt
invariant-block-loop-stmt l = Walks (λ ss. accesses_of (sequence ss)) (λ ss. loops_of (sequence ss)) l.initial.self l.self (map stmt_of l.stmts.items) (map stmt_of (drop l.stmt-index l.stmts.items))
