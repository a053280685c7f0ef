use Rattle.std.proofs.Common.{◌≡◌, ◌++◌, All, map, length}
use Rattle.gm_workers.specs.Threads.{Shares}
use Rattle.gm_workers.proofs.threads.turns_of.Given as goal

abbrev pub invariant-loop-own : goal.invariant-loop-own
invariant-loop-own g l = record {
  slots : map (λ t. t.task.slot) l.turns.items ++ l.waiting.rest.items ≡ l.fn.slots.items;
  posts : map (λ t. t.task.posts) l.turns.items ++ l.own-iterator.rest.items ≡ l.fn.posts.items;
  left : length l.own-iterator.rest.items ≡ length l.waiting.rest.items;
  shared : All (λ t. Shares l.duty l.dealing l.mailboxes t.task.duty t.task.dealing.now t.task.mailboxes.now t.task.sent) l.turns.items;
}
