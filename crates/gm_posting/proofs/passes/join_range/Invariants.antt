use Rattle.gm_posting.specs.Rows.{Joins}
use Rattle.gm_posting.proofs.passes.join_range.Given as goal

abbrev pub invariant-loop-worker : goal.invariant-loop-worker
invariant-loop-worker g l = Joins l.from l.worker l.initial.zero l.zero l.initial.rows l.rows
