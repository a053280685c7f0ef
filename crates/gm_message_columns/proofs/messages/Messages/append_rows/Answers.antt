-- One more message stands behind these.
use Rattle.std.proofs.Common.{◌<◌, length, arith}
use Rattle.gm_message_columns.specs.MessageTables.{message_rows}
use Rattle.gm_message_columns.proofs.ListLemmas.{rows-added}
use Rattle.gm_message_columns.proofs.messages.Messages.append_rows.Goals as goal

pub loop-row-preserved : goal.loop-row-preserved
loop-row-preserved c =
    let low : c.loop-row.row < length (message_rows c.args.more.now) = omega (arith, c.loop-row-test.true, c.len-rows.ensures.messages) in
    rows-added c.args.more.now c.loop-row.row c.to_at.result c.args.self.now c.loop-row.self c.add_row.new.self low c.to_at.ensures c.loop-row.invariant c.in_ok-add_row.ensures
