use Rattle.std.proofs.Common.{take}
use Rattle.gm_levels.specs.Searches.{AreMarked, targets_of}
use Rattle.gm_levels.proofs.searches.Search.mark_from.Given as goal

abbrev pub invariant-loop-node : goal.invariant-loop-node
invariant-loop-node l = AreMarked (targets_of l.graph (take l.node-index l.frontier)) l.level l.initial.self l.self
