use Rattle.std.proofs.Common.{arith, ◌∙◌, sym, ap, Some}
use Rattle.gm_graph.proofs.Steps.{edge-of}
use Rattle.gm_graph.proofs.Lines.{length-sources, length-targets}
use Rattle.gm_graph.proofs.Views.{out-edge, out-line, edge_count-is}
use Rattle.gm_graph.proofs.graphs.Graph.out_edge.Goals as goal

pub edge-requires-clause-placed : goal.edge-requires-clause-placed
edge-requires-clause-placed c =
    let g = c.self.inside in
    let at = out-edge g c.args.self.now c.self.view_is c.self.invariant c.args.node c.args.k c.requires.node c.requires.step in
    omega (arith, at.placed, c.self.invariant.outward.edges_row.len)

pub returns-clause-edge : goal.returns-clause-edge
returns-clause-edge c =
    let g = c.self.inside in
    let at = out-edge g c.args.self.now c.self.view_is c.self.invariant c.args.node c.args.k c.requires.node c.requires.step in
    edge-of _ c.args.k _ at.edge at.step ∙ ap (λ e. Some e) (sym (c.edge.ensures ∙ out-line g c.args.node c.args.k _ at))

pub returns-clause-known : goal.returns-clause-known
returns-clause-known c =
    let g = c.self.inside in
    let at = out-edge g c.args.self.now c.self.view_is c.self.invariant c.args.node c.args.k c.requires.node c.requires.step in
    let count = edge_count-is g c.args.self.now c.self.view_is in
    omega (arith, count, at.within, length-sources g.outward, length-targets g.outward, c.edge.ensures ∙ out-line g c.args.node c.args.k _ at)
