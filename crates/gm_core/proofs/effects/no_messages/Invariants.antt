-- The batches so far.
use Rattle.std.proofs.Common.{◌≡◌, [], replicate}
use Rattle.gm_core.proofs.effects.no_messages.Given as goal

abbrev pub invariant-loop-worker : goal.invariant-loop-worker
invariant-loop-worker l = l.batches.items ≡ replicate l.worker []
