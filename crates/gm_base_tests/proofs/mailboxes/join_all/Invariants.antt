use Rattle.std.proofs.Common.{◌≡◌, ◌+◌, ◌<◌, All, length}
use Rattle.gm_base_tests.proofs.mailboxes.join_all.Given as goal

abbrev pub invariant-loop-post : goal.invariant-loop-post
invariant-loop-post g l = record {
  same : (l.zero.mailbox ≡ l.mailbox) × (l.zero.number ≡ 0) × (l.zero.splits ≡ l.fn.zero.splits);
  ended : length l.zero.ended + length l.post-iterator.rest.items ≡ length l.fn.zero.ended + length l.fn.posts.items;
  rest : All (λ p. (p.mailbox ≡ l.mailbox) × (0 < p.number)) l.post-iterator.rest.items;
}
