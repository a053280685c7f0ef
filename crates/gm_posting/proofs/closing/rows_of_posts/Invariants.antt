use Rattle.std.proofs.Common.{◌≡◌, length, take, drop}
use Rattle.gm_posting.specs.Rows.{traffics, ArePlaced}
use Rattle.gm_posting.proofs.closing.rows_of_posts.Given as goal

abbrev pub invariant-loop-worker : goal.invariant-loop-worker
invariant-loop-worker g l = record {
  placed : ArePlaced l.rows.items;
  shown : traffics 0 l.rows.items ≡ take (length l.rows.items) l.fn.posts.items;
  rest : l.worker-iterator.rest.items ≡ drop (length l.rows.items) l.fn.posts.items;
}
