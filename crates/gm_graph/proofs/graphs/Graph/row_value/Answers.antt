use Rattle.std.proofs.Common.{arith, ◌∙◌, ap, map}
use Rattle.gm_columns.specs.Columns.{TypedRow, cell_at}
use Rattle.gm_graph.proofs.Views.{row-has, rows-below, cell-known, edge_count-is}
use Rattle.gm_graph.proofs.graphs.Graph.row_value.Goals as goal

pub cell-requires-clause-row : goal.cell-requires-clause-row
cell-requires-clause-row c =
    let g = c.self.inside in
    rows-below g.edge_columns.items _ _ c.args.row c.as_slice.ensures.value (omega (arith, c.requires.row, edge_count-is g c.args.self.now c.self.view_is)) c.self.invariant.edge_rows

pub returns : goal.returns
returns c =
    let g = c.self.inside in
    let v = c.args.self.now in
    let row = row-has g v c.self.view_is c.self.invariant c.args.row c.requires.row in
    ap (cell_at v.edge_columns c.args.column) row.shown
    ∙ cell-known g v c.self.view_is c.self.invariant c.args.column row.edge c.as_slice.result.now c.cell.result row.within c.as_slice.ensures.value
    (ap (λ r. cell_at (map (λ (t : TypedRow). t.values) c.as_slice.result.now) c.args.column r) row.is ∙ c.cell.ensures)
