use Rattle.std.proofs.Common.{map, drop, option_map}
use Rattle.gm_ast.specs.SurfaceTree as Spelled
use Rattle.gm_ast.specs.Tree.{stmt_of}
use Rattle.gm_types.specs.Blocks.{Blocks}
use Rattle.gm_types.proofs.names.Checker.+stating.Given as goal

-- the statements so far are judged
abbrev pub invariant-block-loop-stmt : goal.invariant-block-loop-stmt
invariant-block-loop-stmt l = Blocks l.initial.self l.self (option_map (λ v. map stmt_of v.items) l.held) (map Spelled.stmt_of l.stmts.items) (map Spelled.stmt_of (drop l.stmt-index l.stmts.items))
