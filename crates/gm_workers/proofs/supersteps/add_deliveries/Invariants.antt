-- The deliveries of the batches so far.
use Rattle.std.proofs.Common.{◌≡◌, ◌++◌, drop, map, length}
use Rattle.gm_core.specs.declared.events.Event.TheVariants.{Deliver}
use Rattle.gm_workers.specs.Crews.{deliveries_to}
use Rattle.gm_workers.proofs.supersteps.add_deliveries.Given as goal

abbrev pub invariant-loop-batch : goal.invariant-loop-batch
invariant-loop-batch l =
    l.delivered.items ++ map (λ b. Deliver b.0 l.to (length b.1.messages)) (drop l.batch-index l.slot.waiting.items)
    ≡ l.fn.delivered.items ++ deliveries_to l.to l.slot
