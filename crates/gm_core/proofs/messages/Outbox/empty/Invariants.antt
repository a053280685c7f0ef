-- The rows so far.
use Rattle.std.proofs.Common.{◌≡◌, [], replicate}
use Rattle.gm_core.proofs.messages.Outbox.empty.Given as goal

abbrev pub invariant-loop-worker : goal.invariant-loop-worker
invariant-loop-worker l = l.rows.items ≡ replicate l.worker []
