use Rattle.gm_posting.specs.Rows.{Splits}
use Rattle.gm_posting.proofs.passes.split_range.Given as goal

abbrev pub invariant-loop-worker : goal.invariant-loop-worker
invariant-loop-worker g l = Splits l.mailbox l.from l.worker l.initial.zero l.zero l.initial.rows l.rows
