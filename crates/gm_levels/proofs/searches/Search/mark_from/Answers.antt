use Rattle.std.proofs.Common.{arith, refl}
use Rattle.gm_levels.proofs.Marking.{marked-none, marked-on, marked-all}
use Rattle.gm_levels.proofs.searches.Search.mark_from.Goals as goal

pub loop-node-init : goal.loop-node-init
loop-node-init c = marked-none c.args.level _

pub loop-node-preserved : goal.loop-node-preserved
loop-node-preserved c =
    marked-on c.args.graph.now c.args.frontier.now c.loop-node.node-index _ c.args.level c.args.self.now c.loop-node.self c.mark_targets.new.self c.requires.level c.loop-node-test.true refl c.loop-node.invariant c.in_ok-mark_targets.ensures

pub returns : goal.returns
returns c = marked-all c.args.graph.now c.args.frontier.now c.loop-node.node-index c.args.level c.args.self.now c.loop-node.self (omega arith) c.loop-node.invariant
