use Rattle.std.proofs.Common.{arith, ◌∙◌, sym, ap, Some}
use Rattle.gm_graph.specs.Walks.{edge_at}
use Rattle.gm_graph.proofs.Steps.{edge-of}
use Rattle.gm_graph.proofs.Lines.{length-sources}
use Rattle.gm_graph.proofs.Views.{out-edge, out-row, edge_count-is}
use Rattle.gm_graph.proofs.graphs.Graph.out_row.Goals as goal

pub row-requires-clause-few : goal.row-requires-clause-few
row-requires-clause-few c =
    let g = c.self.inside in
    let at = out-edge g c.args.self.now c.self.view_is c.self.invariant c.args.node c.args.k c.requires.node c.requires.step in
    omega (arith, at.placed, length-sources g.outward, c.self.invariant.few_edges)

pub returns-clause-edge : goal.returns-clause-edge
returns-clause-edge c =
    let g = c.self.inside in
    let v = c.args.self.now in
    let at = out-edge g v c.self.view_is c.self.invariant c.args.node c.args.k c.requires.node c.requires.step in
    edge-of _ c.args.k _ at.edge at.step ∙ ap (λ e. Some e) (sym (ap (λ r. edge_at v (Some r)) c.row.ensures ∙ out-row g v c.self.view_is c.self.invariant c.args.node c.args.k _ at))

pub returns-clause-known : goal.returns-clause-known
returns-clause-known c =
    let g = c.self.inside in
    let at = out-edge g c.args.self.now c.self.view_is c.self.invariant c.args.node c.args.k c.requires.node c.requires.step in
    omega (arith, at.placed, length-sources g.outward, edge_count-is g c.args.self.now c.self.view_is, c.row.ensures)
