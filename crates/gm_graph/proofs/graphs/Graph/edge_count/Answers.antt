use Rattle.std.proofs.Common.{arith}
use Rattle.gm_graph.proofs.Views.{is-graph, edge_count-is}
use Rattle.gm_graph.proofs.graphs.Graph.edge_count.Goals as goal

pub returns-clause-count : goal.returns-clause-count
returns-clause-count c = omega (arith, edge_count-is c.self.inside c.args.self.now c.self.view_is)

pub returns-clause-known : goal.returns-clause-known
returns-clause-known c = is-graph c.self.inside c.args.self.now c.self.view_is c.self.invariant
