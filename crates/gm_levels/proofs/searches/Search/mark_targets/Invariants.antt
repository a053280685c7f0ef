use Rattle.std.proofs.Common.{take}
use Rattle.gm_model.specs.Graphs.{nodes_of, out_steps}
use Rattle.gm_levels.specs.Searches.{AreMarked}
use Rattle.gm_levels.proofs.searches.Search.mark_targets.Given as goal

abbrev pub invariant-loop-k : goal.invariant-loop-k
invariant-loop-k l = AreMarked (take l.k (nodes_of (out_steps l.graph l.node))) l.level l.initial.self l.self
