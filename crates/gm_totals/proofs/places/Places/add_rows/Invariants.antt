use Rattle.std.proofs.Common.{◌≡◌, ◌+◌, ◌-◌, length}
use Rattle.gm_semantics.specs.declared.slots.Slot.{Slot}
use Rattle.gm_totals.specs.Places.{place_at}
use Rattle.gm_totals.proofs.places.Places.add_rows.Given as goal

-- the rows so far keep the places
abbrev pub invariant-loop-self : goal.invariant-loop-self
invariant-loop-self l = (q : Slot) → place_at l.self q ≡ place_at l.fn.self q

-- how many rows are missing
abbrev pub decreases-loop-self : goal.decreases-loop-self
decreases-loop-self l = l.row + 1 - length l.self.rows.items
