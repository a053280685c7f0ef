use Rattle.std.proofs.Common.{◌≡◌, ◌+◌, ◌<◌, All, vec_len}
use Rattle.gm_base_tests.proofs.mailboxes.split_off.Given as goal

abbrev pub invariant-loop-made : goal.invariant-loop-made
invariant-loop-made g l = record {
  zero : l.zero ≡ record l.fn.zero { splits = l.fn.zero.splits + l._made };
  len : vec_len l.posts ≡ l._made;
  posts : All (λ p. (p.mailbox ≡ l.mailbox) × (0 < p.number)) l.posts.items;
}
