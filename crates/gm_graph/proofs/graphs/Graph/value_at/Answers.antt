use Rattle.std.proofs.Common.{◌∙◌, sym, ap, arith}
use Rattle.gm_columns.specs.Columns.{cell_at}
use Rattle.gm_model.specs.Graphs.{edge_count}
use Rattle.gm_graph.proofs.Views.{edge-behind, no-column, no-row}
use Rattle.gm_graph.proofs.graphs.Graph.value_at.Goals as goal

pub returns-then-row-edge_count : goal.returns-then-row-edge_count
returns-then-row-edge_count c =
    let v = c.args.self.now in
    let behind = edge-behind v c.args.row (omega arith) in
    sym (ap (cell_at v.edge_columns c.args.column) behind ∙ no-row v.edge_columns c.args.column (edge_count v) (edge_count v) c.edge_count.ensures.known.edge_rows (omega arith))

pub returns-then-column-edge_column_count : goal.returns-then-column-edge_column_count
returns-then-column-edge_column_count c =
    let v = c.args.self.now in
    sym (no-column v.edge_columns c.args.column _ (omega arith))
