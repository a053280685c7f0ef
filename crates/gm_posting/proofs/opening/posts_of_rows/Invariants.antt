use Rattle.std.proofs.Common.{◌≡◌, length, take, drop}
use Rattle.gm_posting.specs.Rows.{traffics}
use Rattle.gm_posting.proofs.opening.posts_of_rows.Given as goal

abbrev pub invariant-loop-row : goal.invariant-loop-row
invariant-loop-row g l = record {
  count : length l.posts.items ≡ l.worker;
  shown : l.posts.items ≡ traffics 0 (take l.worker l.fn.rows.items);
  rest : l.row-iterator.rest.items ≡ drop l.worker l.fn.rows.items;
}
