-- The messages of the batches so far.
use Rattle.std.proofs.Common.{◌≡◌, ◌+◌, drop, length}
use Rattle.gm_workers.specs.Parts.{messages_in}
use Rattle.gm_workers.proofs.supersteps.count_one.Given as goal

abbrev pub invariant-loop-batch : goal.invariant-loop-batch
invariant-loop-batch l = l.count + length (messages_in (drop l.batch-index l.slot.waiting.items)) ≡ l.before + length (messages_in l.slot.waiting.items)
