-- No messages are sorted.
use Rattle.std.proofs.Common.{◌≡◌, ◌∙◌, length, sym}
use Rattle.std.proofs.lemmas.Bool.{eqb-true}
use Rattle.gm_node_batches.proofs.InboxLaws.{empty-sorted}
use Rattle.gm_node_batches.proofs.inboxes.Inbox.sort.Goals as goal

pub invariant_of-result : goal.invariant_of-result
invariant_of-result c none =
    let none_sent : length c.args.messages ≡ 0 = sym c.messages-empty.ensures ∙ eqb-true c.messages-empty.result 0 none in
    empty-sorted c.args.messages c.args.places c.in_ok-messages.messages none_sent c.in_ok-messages.ensures
