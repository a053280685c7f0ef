-- One more message stands behind the others.
use Rattle.std.proofs.Common.{◌<◌, length, arith}
use Rattle.gm_message_columns.specs.MessageTables.{message_rows}
use Rattle.gm_message_columns.proofs.ListLemmas.{rows-added}
use Rattle.gm_message_columns.proofs.messages.add_rows_to.Goals as goal

pub loop-row-preserved : goal.loop-row-preserved
loop-row-preserved c =
    let low : c.loop-row.row < length (message_rows c.args.from.now) = omega (arith, c.loop-row-test.true, c.len-rows.ensures.messages) in
    rows-added c.args.from.now c.loop-row.row c.to_at.result c.args.others.now c.loop-row.others c.add_row_to.new.others low c.to_at.ensures c.loop-row.invariant c.in_ok-add_row_to.ensures.added
