-- The numbers so far.
use Rattle.std.proofs.Common.{◌≡◌, ◌+◌, map, take}
use Rattle.gm_batches.proofs.places.shift.Given as goal

abbrev pub invariant-loop-row : goal.invariant-loop-row
invariant-loop-row l = l.shifted.items ≡ map (λ row. l.from + row) (take l.row l.rows)
