-- The rows so far are parted by the flags so far.
use Rattle.std.proofs.Common.{◌≡◌, take}
use Rattle.gm_kernels.specs.Pointwise.{held, left_out}
use Rattle.gm_kernels.proofs.partitions.partition.Given as goal

abbrev pub invariant-loop-row : goal.invariant-loop-row
invariant-loop-row l = (l.parts.held.items ≡ held (take l.row l.flags) (take l.row l.rows)) × (l.parts.left_out.items ≡ left_out (take l.row l.flags) (take l.row l.rows))
