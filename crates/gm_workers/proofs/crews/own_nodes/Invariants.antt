-- The nodes of the worker so far.
use Rattle.std.proofs.Common.{◌≡◌}
use Rattle.gm_core.specs.Supersteps.{own}
use Rattle.gm_workers.proofs.crews.own_nodes.Given as goal

abbrev pub invariant-loop-node : goal.invariant-loop-node
invariant-loop-node l = l.nodes.items ≡ own l.owners l.worker l.node
