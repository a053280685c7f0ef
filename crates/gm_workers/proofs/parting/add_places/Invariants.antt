-- The places of the first messages stand in the lists.
use Rattle.gm_workers.proofs.PartingLemmas.{PartedTo}
use Rattle.gm_workers.proofs.parting.add_places.Given as goal

abbrev pub invariant-loop-row : goal.invariant-loop-row
invariant-loop-row l = PartedTo l.owners l.mail.messages l.row l.parts
