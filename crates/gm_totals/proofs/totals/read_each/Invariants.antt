use Rattle.std.proofs.Common.{◌≡◌, take, map}
use Rattle.gm_store.specs.Held.{held_at}
use Rattle.gm_totals.proofs.totals.read_each.Given as goal

-- the slots so far were read
abbrev pub invariant-loop-slot : goal.invariant-loop-slot
invariant-loop-slot l = l.values.items ≡ map (held_at l.store) (take l.slot-index l.slots)
