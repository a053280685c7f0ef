use Rattle.std.proofs.Common.{◌≡◌, ◌+◌, map}
use Rattle.gm_ast.specs.Tree.{stmt_of}
use Rattle.gm_hoisting.specs.Hoisting.{count_phase, phase_out}
use Rattle.gm_hoisting.proofs.InTurn.{partly, counts_before}
use Rattle.gm_hoisting.proofs.hoisting.+hoisting.Given as goal

abbrev pub invariant-phase_block-loop-i : goal.invariant-phase_block-loop-i
invariant-phase_block-loop-i l = goal.unvisited-phase_block-loop-i l
    × (map stmt_of l.stmts.items ≡ partly (phase_out l.fn.around) (count_phase l.fn.around) l.i l.fn.next (map stmt_of l.initial.stmts.items))
    × (l.next ≡ l.fn.next + counts_before (count_phase l.fn.around) l.i (map stmt_of l.initial.stmts.items))
