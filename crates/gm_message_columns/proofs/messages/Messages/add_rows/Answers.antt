-- Messages in columns are those of the list.
use Rattle.std.proofs.Common.{◌∙◌, ◌++◌, ap}
use Rattle.gm_message_columns.proofs.ListLemmas.{on-ok, rows-are, rows-low}
use Rattle.gm_message_columns.proofs.messages.Messages.add_rows.Goals as goal

pub add_picked-requires : goal.add_picked-requires
add_picked-requires c = rows-low c.in-Some.from.now c.args.other.now c.args.rows.now c.in-Some.ensures c.requires

pub returns-in-Some : goal.returns-in-Some
returns-in-Some c =
    on-ok c.add_picked.result (λ added d. added ∙ ap (λ l. c.args.self.now ++ l) (rows-are c.in-Some.from.now c.args.other.now c.args.rows.now d c.in-Some.ensures c.requires)) c.add_picked.ensures
