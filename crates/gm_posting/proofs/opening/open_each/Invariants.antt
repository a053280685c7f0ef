use Rattle.std.proofs.Common.{◌≡◌, length}
use Rattle.gm_posting.specs.Rows.{OpensAll}
use Rattle.gm_posting.proofs.opening.open_each.Given as goal

abbrev pub invariant-loop-own : goal.invariant-loop-own
invariant-loop-own g l = record {
  count : length l.mailboxes.items ≡ l.own;
  each : OpensAll (length l.fn.rows) l.mailboxes.items l.rows;
}
