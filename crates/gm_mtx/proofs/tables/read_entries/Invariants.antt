use Rattle.std.proofs.Common.{length, ◌+◌}
use Rattle.gm_mtx.proofs.Reading.{IsReading}
use Rattle.gm_mtx.proofs.tables.read_entries.Given as goal

abbrev pub invariant-lines : goal.invariant-lines
invariant-lines l = IsReading l.shape.edges l.kind l.size (l.size_number + 1) l.text l.rest l.number l.tables

abbrev pub decreases-lines : goal.decreases-lines
decreases-lines l = length l.rest
