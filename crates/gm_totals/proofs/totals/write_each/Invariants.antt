use Rattle.gm_totals.proofs.Settling.{Written}
use Rattle.gm_totals.proofs.totals.write_each.Given as goal

-- the slots from here on are written
abbrev pub invariant-loop-k : goal.invariant-loop-k
invariant-loop-k l = Written l.slots l.values l.k l.fn.writes.items l.writes.items

-- how many are left
abbrev pub decreases-loop-k : goal.decreases-loop-k
decreases-loop-k l = l.k
