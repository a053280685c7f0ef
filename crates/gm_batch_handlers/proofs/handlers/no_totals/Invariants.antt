-- The totals so far.
use Rattle.std.proofs.Common.{◌≡◌, ◌≤◌, ◌-◌, None, length, replicate}
use Rattle.gm_batch_handlers.proofs.handlers.no_totals.Given as goal

abbrev pub invariant-slots : goal.invariant-slots
invariant-slots l = (l.totals.items ≡ replicate (length l.totals.items) None) × (length l.totals.items ≤ l.slots)

abbrev pub decreases-slots : goal.decreases-slots
decreases-slots l = l.slots - length l.totals.items
