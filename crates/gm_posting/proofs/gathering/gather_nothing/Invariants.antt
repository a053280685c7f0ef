use Rattle.gm_posting.specs.Gathering.{NothingGathered}
use Rattle.gm_posting.proofs.gathering.gather_nothing.Given as goal

abbrev pub invariant-loop-made : goal.invariant-loop-made
invariant-loop-made g l = NothingGathered g.B.Bundle.items l._made l.gathered.items
