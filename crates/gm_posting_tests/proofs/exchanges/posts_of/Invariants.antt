use Rattle.std.proofs.Common.{◌≡◌, ◌++◌, ◌+◌, length, map}
use Rattle.gm_posting_tests.proofs.exchanges.posts_of.Given as goal

abbrev pub invariant-loop-turn : goal.invariant-loop-turn
invariant-loop-turn g l = record {
  posts : l.posts.items ++ map (λ t. t.task.posts) l.turn-iterator.rest.items ≡ map (λ t. t.task.posts) l.fn.turns.items;
  early : length l.early.items + length l.turn-iterator.rest.items ≡ length l.fn.turns.items;
}
