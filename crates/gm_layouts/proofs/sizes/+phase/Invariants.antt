use Rattle.std.proofs.Common.{◌≡◌, drop, map}
use Rattle.std.specs.Prelude.{max}
use Rattle.gm_ast.specs.Program.{sequence}
use Rattle.gm_ast.specs.Tree.{stmt_of}
use Rattle.gm_lowering.specs.Layouts.{phase_positions}
use Rattle.gm_layouts.proofs.sizes.+phase.Given as goal

-- the most so far, and of what is left
abbrev pub invariant-phase_positions_among-loop-stmt : goal.invariant-phase_positions_among-loop-stmt
invariant-phase_positions_among-loop-stmt l =
    max l.most (phase_positions l.fn.declarations (sequence (map stmt_of (drop l.stmt-index l.stmts.items)))) ≡ phase_positions l.fn.declarations (sequence (map stmt_of l.stmts.items))
