use Rattle.gm_demo.proofs.Reading.{IsCount}
use Rattle.gm_demo.proofs.lines.reached.Given as goal

abbrev pub invariant-loop-node : goal.invariant-loop-node
invariant-loop-node l = IsCount l.values l.count l.node
