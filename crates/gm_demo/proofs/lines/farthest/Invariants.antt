use Rattle.gm_demo.proofs.Reading.{IsFar}
use Rattle.gm_demo.proofs.lines.farthest.Given as goal

abbrev pub invariant-loop-node : goal.invariant-loop-node
invariant-loop-node l = IsFar l.values l.far l.node
