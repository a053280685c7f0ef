use Rattle.std.proofs.Common.{◌≡◌, ◌++◌, map}
use Rattle.gm_workers.proofs.threads.leavings_of.Given as goal

abbrev pub invariant-loop-turn : goal.invariant-loop-turn
invariant-loop-turn g l = record {
  slots : l.slots.items ++ map (λ t. t.task.slot) l.turn-iterator.rest.items ≡ map (λ t. t.task.slot) l.fn.turns.items;
  posts : l.posts.items ++ map (λ t. t.task.posts) l.turn-iterator.rest.items ≡ map (λ t. t.task.posts) l.fn.turns.items;
  sent : l.sent.items ++ map (λ t. t.task.sent) l.turn-iterator.rest.items ≡ map (λ t. t.task.sent) l.fn.turns.items;
}
