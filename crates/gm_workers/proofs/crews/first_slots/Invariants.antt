-- The workers so far.
use Rattle.gm_image.specs.Views.{program}
use Rattle.gm_workers.specs.Crews.{AreFirst}
use Rattle.gm_workers.proofs.crews.first_slots.Given as goal

abbrev pub invariant-loop-worker : goal.invariant-loop-worker
invariant-loop-worker l = AreFirst (program l.image) l.graph l.owners l.worker l.slots.items
