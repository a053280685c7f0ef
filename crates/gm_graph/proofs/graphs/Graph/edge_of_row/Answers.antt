use Rattle.std.proofs.Common.{arith, ◌∙◌, sym}
use Rattle.std.proofs.lemmas.List.{get_or_read}
use Rattle.gm_graph.proofs.Views.{row-has, edge_count-is}
use Rattle.gm_graph.proofs.graphs.Graph.edge_of_row.Goals as goal

pub index-requires : goal.index-requires
index-requires c = omega (arith, edge_count-is c.self.inside c.args.self.now c.self.view_is, c.requires)

pub returns-clause-edge : goal.returns-clause-edge
returns-clause-edge c =
    let g = c.self.inside in
    let v = c.args.self.now in
    let row = row-has g v c.self.view_is c.self.invariant c.args.row c.requires in
    let read = get_or_read g.outward.edges.items c.args.row c.index.result.now (omega (arith, edge_count-is g v c.self.view_is, c.requires)) c.index.ensures 0 in
    sym (row.shown ∙ sym (read ∙ row.line))

pub returns-clause-known : goal.returns-clause-known
returns-clause-known c =
    let g = c.self.inside in
    let v = c.args.self.now in
    let row = row-has g v c.self.view_is c.self.invariant c.args.row c.requires in
    let read = get_or_read g.outward.edges.items c.args.row c.index.result.now (omega (arith, edge_count-is g v c.self.view_is, c.requires)) c.index.ensures 0 in
    omega (arith, read, row.line, row.within, edge_count-is g v c.self.view_is)
