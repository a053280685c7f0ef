use Rattle.std.proofs.Common.{◌≡◌, ap, length, subst, sym}
use Rattle.std.specs.Prelude.{All, ◌<◌}
use Rattle.gm_image.specs.Views.{term}
use Rattle.gm_batches.specs.NodeBatches.{row_count, rows_in}
use Rattle.gm_batch_handlers.specs.RowStates.{AreChosen}
use Rattle.gm_batch_handlers.proofs.BatchLaws.{batch-is, column-values}
use Rattle.gm_batch_handlers.proofs.row_states.values_of.Goals as goal

pub evaluate-requires-clause-batch : goal.evaluate-requires-clause-batch
evaluate-requires-clause-batch c =
    batch-is c.batch_of-batch.result c.args.context.now c.args.registers.now c.batch_of-batch.ensures c.requires.context c.requires.full

pub evaluate-requires-clause-rows : goal.evaluate-requires-clause-rows
evaluate-requires-clause-rows c =
    let b = c.batch_of-batch.result in
    let count : row_count b ≡ length c.args.context.now.nodes.now = ap length c.batch_of-batch.ensures.nodes in
    let chosen : AreChosen (row_count b) c.args.chosen = subst (λ n. AreChosen n c.args.chosen) (sym count) c.requires.chosen in
    subst (λ rows. All (λ row. row < row_count b) rows) (sym (c.rows_of.ensures b chosen)) chosen.rows_within

pub returns : goal.returns
returns c =
    let b = c.batch_of-batch.result in
    let count : row_count b ≡ length c.args.context.now.nodes.now = ap length c.batch_of-batch.ensures.nodes in
    let chosen : AreChosen (row_count b) c.args.chosen = subst (λ n. AreChosen n c.args.chosen) (sym count) c.requires.chosen in
    column-values c.evaluate.result b c.args.context.now c.args.registers.now (rows_in b c.rows_of.result) c.args.chosen.rows.now (term c.args.expr.now)
    c.batch_of-batch.ensures (c.rows_of.ensures b chosen) c.evaluate.ensures
