-- The turns of the rows so far.
use Rattle.gm_batch_steps.proofs.TurnLists.{Made}
use Rattle.gm_batch_steps.proofs.turns.turns_from.Given as goal

abbrev pub invariant-loop-i : goal.invariant-loop-i
invariant-loop-i l = Made l.context l.rows l.i l.turns
