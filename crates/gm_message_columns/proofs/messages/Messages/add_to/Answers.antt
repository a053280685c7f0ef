-- A message in columns is added as one to another node.
use Rattle.gm_message_columns.proofs.ListLemmas.{row-sent, some-row}
use Rattle.gm_message_columns.proofs.messages.Messages.add_to.Goals as goal

pub add_row-requires : goal.add_row-requires
add_row-requires c = some-row c.other.inside.columns c.in-Some.columns c.args.i c.rows_of-rows.result c.in-Some.is c.rows_of-rows.ensures c.if-i-rows.true

pub returns-in-Some : goal.returns-in-Some
returns-in-Some c =
    row-sent c.add_row.result c.other.inside.columns c.in-Some.columns c.other.inside.others c.args.other.now c.args.self.now c.add_row.new.self c.args.i c.rows_of-rows.result c.args.to
    c.in-Some.is c.other.view_is c.rows_of-rows.ensures c.if-i-rows.true c.add_row.ensures
