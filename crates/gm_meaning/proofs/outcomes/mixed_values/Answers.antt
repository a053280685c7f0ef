use Rattle.gm_store.specs.Held.{node_of}
use Rattle.gm_meaning.proofs.Numbers.{pushed-more}
use Rattle.gm_meaning.proofs.outcomes.mixed_values.Goals as goal

pub loop-node-preserved : goal.loop-node-preserved
loop-node-preserved c =
    pushed-more (node_of c.args.store.now c.args.x) c.loop-node.node c.loop-node.values.items c.push.new.self.items c.node.result c.in_ok-push.ensures.items c.loop-node.invariant c.node.ensures
