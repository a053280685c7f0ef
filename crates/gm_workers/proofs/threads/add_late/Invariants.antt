use Rattle.std.proofs.Common.{◌≡◌, ◌+◌, drop, length}
use Rattle.gm_workers.specs.Threads.{AddsLate}
use Rattle.gm_workers.proofs.threads.add_late.Given as goal

abbrev pub invariant-loop-worker : goal.invariant-loop-worker
invariant-loop-worker l = record {
  added : AddsLate l.worker l.fn.late.items l.fn.slots l.slots;
  rest : l.batches.rest.items ≡ drop l.worker l.fn.late.items;
  left : l.worker + length l.batches.rest.items ≡ length l.slots;
}
