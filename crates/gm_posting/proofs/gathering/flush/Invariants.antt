use Rattle.gm_posting.proofs.GatheringLemmas.{FlushedTo}
use Rattle.gm_posting.proofs.gathering.flush.Given as goal

abbrev pub invariant-loop-to : goal.invariant-loop-to
invariant-loop-to g l = FlushedTo g.B.Bundle.items l.to l.initial.posts l.posts l.initial.gathered l.gathered
