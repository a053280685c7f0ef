use Rattle.std.proofs.Common.{◌≡◌}
use Rattle.gm_semantics.specs.Levels.{numbers_from}
use Rattle.gm_loops.proofs.columns.numbered.Given as goal

-- the nodes so far
abbrev pub invariant-loop-node : goal.invariant-loop-node
invariant-loop-node l = l.all.items ≡ numbers_from 0 l.node
