use Rattle.std.proofs.Common.{arith, ◌∙◌, sym}
use Rattle.gm_graph.proofs.Lines.{length-sources}
use Rattle.gm_graph.proofs.Views.{out-edge, out-line, row-known, rows-below, value-along}
use Rattle.gm_graph.proofs.graphs.Graph.out_value.Goals as goal

pub row-requires-clause-few : goal.row-requires-clause-few
row-requires-clause-few c =
    let g = c.self.inside in
    let at = out-edge g c.args.self.now c.self.view_is c.self.invariant c.args.node c.args.k c.requires.node c.requires.step in
    omega (arith, at.placed, length-sources g.outward, c.self.invariant.few_edges)

pub cell-requires-clause-row : goal.cell-requires-clause-row
cell-requires-clause-row c =
    let g = c.self.inside in
    let at = out-edge g c.args.self.now c.self.view_is c.self.invariant c.args.node c.args.k c.requires.node c.requires.step in
    rows-below g.edge_columns.items _ _ c.row.result c.as_slice.ensures.value (omega (arith, c.row.ensures, at.placed, length-sources g.outward)) c.self.invariant.edge_rows

pub returns : goal.returns
returns c =
    let g = c.self.inside in
    let at = out-edge g c.args.self.now c.self.view_is c.self.invariant c.args.node c.args.k c.requires.node c.requires.step in
    value-along g c.args.self.now c.self.view_is c.self.invariant _ c.args.k c.args.column _ at.edge c.row.result c.as_slice.result.now c.cell.result at.step (omega (arith, at.within, length-sources g.outward))
    (row-known g c.self.invariant _ at.edge at.placed (out-line g c.args.node c.args.k _ at) ∙ sym c.row.ensures) c.as_slice.ensures.value c.cell.ensures
