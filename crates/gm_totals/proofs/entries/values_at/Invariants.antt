use Rattle.std.proofs.Common.{map}
use Rattle.gm_value.specs.Numbers.{number_of}
use Rattle.gm_totals.proofs.Tuples.{AreSoFar}
use Rattle.gm_totals.proofs.entries.values_at.Given as goal

-- the values so far
abbrev pub invariant-loop-k : goal.invariant-loop-k
invariant-loop-k l = AreSoFar l.held (map number_of l.tuple) l.k l.values.items
