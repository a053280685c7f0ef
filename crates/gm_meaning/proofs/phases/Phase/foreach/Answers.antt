use Rattle.std.proofs.Common.{arith}
use Rattle.gm_model.specs.Graphs.{node_count}
use Rattle.gm_meaning.proofs.Levels.{numbers-below}
use Rattle.gm_meaning.proofs.phases.Phase.foreach.Goals as goal

pub loops-requires-clause-known : goal.loops-requires-clause-known
loops-requires-clause-known c = numbers-below 0 c.node_count.result (node_count c.args.setting.now.graph.now) (omega (arith, c.node_count.ensures.count))
