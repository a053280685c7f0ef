-- What was put together so far, and how many of the first cells were taken.
use Rattle.std.proofs.Common.{◌≡◌, take}
use Rattle.gm_kernels.specs.Pointwise.{count_of, merged}
use Rattle.gm_kernels.proofs.partitions.merge_cells.Given as goal

abbrev pub invariant-loop-row : goal.invariant-loop-row
invariant-loop-row g l = (l.taken ≡ count_of (take l.row l.flags)) × (l.out.items ≡ merged (take l.row l.flags) l.some l.others)
