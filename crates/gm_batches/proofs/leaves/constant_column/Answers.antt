use Rattle.std.proofs.Common.{refl, replicate}
use Rattle.gm_image.specs.Term as T
use Rattle.gm_batches.specs.NodeBatches.{rows_in}
use Rattle.gm_batches.specs.ColumnTypes.{constant_type}
use Rattle.gm_batches.proofs.LeafLaws.{constant_in}
use Rattle.gm_batches.proofs.ColumnLaws.{same_found, found_column}
use Rattle.gm_batches.proofs.leaves.constant_column.Goals as goal

pub returns : goal.returns
returns c =
    let b = c.args.batch.now in
    let n = c.count_rows.result in
    same_found c.constant_if.result refl
    (constant_in b (T.Const c.args.value) c.args.value (λ row. refl) (rows_in b c.args.rows) n c.count_rows.ensures)
    (found_column (constant_type c.args.value) (replicate n c.args.value) c.constant_if.result c.constant_if.ensures.vtype c.constant_if.ensures.values)
