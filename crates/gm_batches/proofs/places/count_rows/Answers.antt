use Rattle.std.proofs.Common.{◌∙◌, ap, sym, length}
use Rattle.std.proofs.lemmas.List.FromFn.{length-range_with_len}
use Rattle.gm_batches.specs.NodeBatches.{row_count, rows_in}
use Rattle.gm_batches.proofs.places.count_rows.Goals as goal

pub returns-in-All : goal.returns-in-All
returns-in-All c =
    let b = c.args.batch.now in
    sym (ap (λ r. length (rows_in b r)) c.in-All.is ∙ length-range_with_len 0 (row_count b))
