use Rattle.gm_graph.proofs.Views.{is-graph}
use Rattle.gm_graph.proofs.graphs.Graph.node_count.Goals as goal

pub returns-clause-known : goal.returns-clause-known
returns-clause-known c = is-graph c.self.inside c.args.self.now c.self.view_is c.self.invariant
