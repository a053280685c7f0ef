use Rattle.gm_workers.specs.Parts.{Takes}
use Rattle.gm_workers.proofs.parts.take_all.Given as goal

abbrev pub invariant-loop : goal.invariant-loop
invariant-loop g l = Takes l.fn.posts l.posts l.fn.came.items l.came.items
