-- The rows so far.
use Rattle.std.proofs.Common.{◌≡◌, [], replicate}
use Rattle.gm_core.proofs.effects.nothing_unsent.Given as goal

abbrev pub invariant-loop-worker : goal.invariant-loop-worker
invariant-loop-worker l = l.outboxes.items ≡ replicate l.worker (replicate l.workers [])
