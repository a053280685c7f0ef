use Rattle.std.proofs.Common.{rules}
use Rattle.gm_mailbox.proofs.Moves.{sends}
use Rattle.gm_mailbox.proofs.Mailbox.push.Goals as goal

pub push_as-requires-clause-rule : goal.push_as-requires-clause-rule
push_as-requires-clause-rule g c = λ n. sends n _ _ _ c.post.invariant.live (search rules)
