use Rattle.std.proofs.Common.{length}
use Rattle.gm_loader.proofs.Reading.{IsReading}
use Rattle.gm_loader.proofs.loads.read_text.Given as goal

abbrev pub invariant-lines : goal.invariant-lines
invariant-lines l = IsReading l.shape l.limits l.text l.rest l.number l.tables

abbrev pub decreases-lines : goal.decreases-lines
decreases-lines l = length l.rest
