use Rattle.std.proofs.Common.{arith, length}
use Rattle.gm_graph.proofs.Steps.{group-size}
use Rattle.gm_graph.proofs.Views.{out-degree, node_count-is}
use Rattle.gm_graph.specs.Rows.{sources_in}
use Rattle.gm_graph.proofs.graphs.Graph.out_degree.Goals as goal

pub size-requires-clause-ordered : goal.size-requires-clause-ordered
size-requires-clause-ordered c =
    let g = c.self.inside in
    let nodes = node_count-is g c.args.self.now c.self.view_is in
    omega (arith, group-size (length g.numbers.items) c.args.node (sources_in g.outward) g.outward c.self.invariant.outward.starts (omega (arith, nodes, c.requires)))

pub returns-clause-degree : goal.returns-clause-degree
returns-clause-degree c =
    let g = c.self.inside in
    let nodes = node_count-is g c.args.self.now c.self.view_is in
    omega (arith, group-size (length g.numbers.items) c.args.node (sources_in g.outward) g.outward c.self.invariant.outward.starts (omega (arith, nodes, c.requires)), out-degree g c.args.self.now c.self.view_is c.self.invariant c.args.node, c.size.ensures)
