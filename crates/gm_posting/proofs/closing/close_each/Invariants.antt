use Rattle.gm_posting.proofs.ClosingLemmas.{ClosedTo}
use Rattle.gm_posting.proofs.closing.close_each.Given as goal

abbrev pub invariant-loop-done : goal.invariant-loop-done
invariant-loop-done g l = ClosedTo l.done l.initial.rows l.rows l.late
