use Rattle.std.proofs.Common.{sym, arith}
use Rattle.gm_batches.proofs.DegreeLaws.{no-degree}
use Rattle.gm_batches.proofs.degrees.out_degree.Goals as goal

pub returns-else-node-node_count : goal.returns-else-node-node_count
returns-else-node-node_count c = sym (no-degree c.args.graph.now c.args.node c.node_count.ensures.known (omega (arith, c.node_count.ensures.count, c.if-node-node_count.false)))
