-- The nodes so far have their places.
use Rattle.gm_workers.proofs.DealingLemmas.{PlacedTo}
use Rattle.gm_workers.proofs.dealing.places_of.Given as goal

abbrev pub invariant-loop-owner : goal.invariant-loop-owner
invariant-loop-owner l = PlacedTo l.owners l.workers l.owner-index l.places.items l.counts.items
