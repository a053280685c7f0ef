use Rattle.std.proofs.Common.{◌<◌, ◌∙◌, ap, sym, arith, length, map}
use Rattle.gm_columns.specs.Columns.{TypedRow, cell_at}
use Rattle.gm_graph.proofs.Views.{edge_count-is, row-below, rows-below, cell-known}
use Rattle.gm_graph.proofs.graphs.Graph.edge_value.Goals as goal

pub cell-requires-clause-row : goal.cell-requires-clause-row
cell-requires-clause-row c =
    let g = c.self.inside in
    let within : c.args.edge < length g.outward.edges.items = omega (arith, edge_count-is g c.args.self.now c.self.view_is, c.requires.edge) in
    rows-below g.edge_columns.items _ _ c.row_of-row.result c.as_slice.ensures.value (omega (arith, c.row_of-row.ensures, row-below g c.self.invariant c.args.edge within)) c.self.invariant.edge_rows

pub returns : goal.returns
returns c =
    let g = c.self.inside in
    let within : c.args.edge < length g.outward.edges.items = omega (arith, edge_count-is g c.args.self.now c.self.view_is, c.requires.edge) in
    cell-known g c.args.self.now c.self.view_is c.self.invariant c.args.column c.args.edge c.as_slice.result.now c.cell.result within c.as_slice.ensures.value
    (ap (λ r. cell_at (map (λ (t : TypedRow). t.values) c.as_slice.result.now) c.args.column r) (sym c.row_of-row.ensures) ∙ c.cell.ensures)
