use Rattle.std.proofs.Common.{◌≡◌, ◌++◌}
use Rattle.gm_workers.proofs.threads.add_batches.Given as goal

abbrev pub invariant-loop-batch : goal.invariant-loop-batch
invariant-loop-batch l = record {
  nodes : l.slot.nodes ≡ l.fn.slot.nodes;
  fields : l.slot.fields ≡ l.fn.slot.fields;
  waiting : l.slot.waiting.items ++ l.batch-iterator.rest.items ≡ l.fn.slot.waiting.items ++ l.fn.late.items;
}
