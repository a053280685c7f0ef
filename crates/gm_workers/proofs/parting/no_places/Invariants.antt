-- So many workers have a list.
use Rattle.std.proofs.Common.{◌≡◌, length}
use Rattle.gm_workers.proofs.parting.no_places.Given as goal

abbrev pub invariant-loop-worker : goal.invariant-loop-worker
invariant-loop-worker l = length l.parts.items ≡ l._worker
