use Rattle.std.proofs.Common.{◌≡◌, ◌<◌}
use Rattle.gm_base_tests.proofs.mailboxes.send_numbers.Given as goal

abbrev pub invariant-loop-n : goal.invariant-loop-n
invariant-loop-n g l = (l.post.mailbox ≡ l.mailbox) × (0 < l.post.number)
