use Rattle.std.proofs.Common.{◌≤◌, length}
use Rattle.gm_totals.proofs.Closing.{AreLast}
use Rattle.gm_totals.proofs.totals.Totals.closed.Given as goal

-- the targets from here on are closed
abbrev pub invariant-loop-k : goal.invariant-loop-k
invariant-loop-k l = record { within : l.k ≤ length l.self.pots.items; last : AreLast l.store l.self l.k l.closed }

-- how many are left
abbrev pub decreases-loop-k : goal.decreases-loop-k
decreases-loop-k l = l.k
