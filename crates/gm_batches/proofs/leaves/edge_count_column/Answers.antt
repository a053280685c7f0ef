use Rattle.std.proofs.Common.{ap, sym, replicate, Ok}
use Rattle.gm_image.specs.Term as T
use Rattle.gm_batches.specs.NodeBatches.{rows_in}
use Rattle.gm_batches.specs.ColumnTypes.{constant_type}
use Rattle.gm_batches.proofs.LeafLaws.{constant_in}
use Rattle.gm_batches.proofs.ColumnLaws.{same_found, found_column}
use Rattle.gm_batches.proofs.leaves.edge_count_column.Goals as goal

pub returns : goal.returns
returns c =
    let b = c.args.batch.now in
    let n = c.count_rows.result in
    same_found c.constant_if.result (ap constant_type (sym c.edges_in.ensures))
    (constant_in b (T.EdgeCount) c.edges_in.result (λ row. ap (λ v. Ok v) (sym c.edges_in.ensures)) (rows_in b c.args.rows) n c.count_rows.ensures)
    (found_column (constant_type c.edges_in.result) (replicate n c.edges_in.result) c.constant_if.result c.constant_if.ensures.vtype c.constant_if.ensures.values)
