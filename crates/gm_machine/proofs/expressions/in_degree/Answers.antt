-- What is no node has no edges.
use Rattle.gm_machine.proofs.Outside.{in-none}
use Rattle.gm_machine.proofs.expressions.in_degree.Goals as goal

pub returns-in-Some-2-clause-degree : goal.returns-in-Some-2-clause-degree
returns-in-Some-2-clause-degree c =
    in-none c.args.s.now.graph.now c.args.s.now.node c.node_count.result c.node_count.ensures.known c.node_count.ensures.count c.if-s-node_count.false
