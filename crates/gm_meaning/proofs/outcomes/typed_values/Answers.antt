use Rattle.std.proofs.Common.{◌∙◌}
use Rattle.gm_store.specs.Held.{node_of}
use Rattle.gm_meaning.proofs.Numbers.{pushed-more}
use Rattle.gm_meaning.proofs.outcomes.typed_values.Goals as goal

pub loop-node-preserved : goal.loop-node-preserved
loop-node-preserved c = record {
  vtype = c.in_ok-push.ensures.vtype ∙ c.loop-node.invariant.vtype;
  values = pushed-more (node_of c.args.store.now c.args.x) c.loop-node.node c.loop-node.column.values c.push.new.self.values c.node-value.result c.in_ok-push.ensures.added c.loop-node.invariant.values c.node-value.ensures;
}
