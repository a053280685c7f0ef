-- What was read so far.
use Rattle.std.proofs.Common.{◌≡◌, map, take, slice_index_or}
use Rattle.gm_kernels.proofs.gathering.read_at.Given as goal

abbrev pub invariant-loop-row : goal.invariant-loop-row
invariant-loop-row g l = (d : g.row.T.Denot) → take l.row l.out ≡ map (λ place. slice_index_or l.cells place d) (take l.row l.places)
