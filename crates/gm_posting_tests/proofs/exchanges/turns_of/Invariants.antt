use Rattle.std.proofs.Common.{◌≡◌, ◌++◌, All, map}
use Rattle.gm_posting_tests.proofs.exchanges.turns_of.Given as goal

abbrev pub invariant-loop-own : goal.invariant-loop-own
invariant-loop-own g l = record {
  ready : All (λ t. t.task.posts.mailboxes ≡ t.task.mailboxes.now) l.turns.items;
  posts : map (λ t. t.task.posts) l.turns.items ++ l.own-iterator.rest.items ≡ l.fn.posts.items;
  rest : All (λ p. p.mailboxes ≡ l.mailboxes) l.own-iterator.rest.items;
}
