-- The deliveries to the workers so far.
use Rattle.std.proofs.Common.{◌≡◌, ◌++◌, drop}
use Rattle.gm_workers.specs.Crews.{deliveries_from}
use Rattle.gm_workers.proofs.supersteps.deliveries.Given as goal

abbrev pub invariant-loop-slot : goal.invariant-loop-slot
invariant-loop-slot l = l.delivered.items ++ deliveries_from l.to (drop l.slot-index l.slots) ≡ deliveries_from 0 l.slots
