-- There is a message for each node.
use Rattle.std.proofs.Common.{◌≡◌, ◌∙◌, length, sym, rules}
use Rattle.gm_message_columns.proofs.ListLemmas.{rows-long}
use Rattle.gm_message_columns.proofs.columns.MessageColumns.len.Goals as goal

pub returns-clause-messages : goal.returns-clause-messages
returns-clause-messages c =
    let nodes : c.len.result ≡ length c.args.self.now.to = search rules in
    nodes ∙ sym (rows-long c.args.self.now)
