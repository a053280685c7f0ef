-- The copies so far.
use Rattle.std.proofs.Common.{◌≡◌, ◌++◌, replicate}
use Rattle.gm_kernels.proofs.appends.push_copies.Given as goal

abbrev pub invariant-loop-copy : goal.invariant-loop-copy
invariant-loop-copy g l = l.out.items ≡ l.fn.out.items ++ replicate l._copy l.cell
