use Rattle.gm_graph.proofs.Determined.{one-graph}
use Rattle.gm_graph.proofs.laws.graphs_are_determined.Goals as goal

pub returns : goal.returns
returns c = one-graph
