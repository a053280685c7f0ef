-- The places so far are those of the flags so far.
use Rattle.std.proofs.Common.{◌≡◌, take}
use Rattle.gm_kernels.specs.Pointwise.{places_from}
use Rattle.gm_kernels.proofs.selections.places_of.Given as goal

abbrev pub invariant-loop-row : goal.invariant-loop-row
invariant-loop-row l = l.places.items ≡ places_from 0 (take l.row l.flags)
