-- The first lists are empty.
use Rattle.gm_workers.proofs.PartingLemmas.{ClearedTo}
use Rattle.gm_workers.proofs.parting.clear_all.Given as goal

abbrev pub invariant-loop-w : goal.invariant-loop-w
invariant-loop-w l = ClearedTo l.w l.parts
