use Rattle.gm_demo.proofs.Reading.{far_on}
use Rattle.gm_demo.proofs.lines.farthest.Goals as goal

pub loop-node-preserved : goal.loop-node-preserved
loop-node-preserved c = far_on c.args.values.now c.loop-node.far c.farther-far.result c.distance_of.result c.loop-node.node c.get.result c.loop-node.invariant c.get.ensures c.distance_of.ensures c.farther-far.ensures
