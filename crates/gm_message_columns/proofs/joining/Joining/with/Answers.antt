-- There is a node for each message in columns.
use Rattle.std.proofs.Common.{◌∙◌, ap, length, sym}
use Rattle.gm_message_columns.proofs.ListLemmas.{rows-long}
use Rattle.gm_message_columns.proofs.joining.Joining.with.Goals as goal

pub join_rows-requires : goal.join_rows-requires
join_rows-requires c = c.requires ∙ ap length (sym c.in-Some.ensures) ∙ rows-long c.in-Some.columns.now
