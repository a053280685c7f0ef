use Rattle.std.proofs.Common.{length}
use Rattle.gm_mtx.proofs.Reading.{IsSeeking}
use Rattle.gm_mtx.proofs.sizes.find_size.Given as goal

abbrev pub invariant-lines : goal.invariant-lines
invariant-lines l = IsSeeking l.limits l.text l.rest l.number

abbrev pub decreases-lines : goal.decreases-lines
decreases-lines l = length l.rest
