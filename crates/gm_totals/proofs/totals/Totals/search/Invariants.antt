use Rattle.std.proofs.Common.{◌≡◌, ◌<◌, ℕ, false, List, get_or}
use Rattle.gm_semantics.specs.declared.slots.Slot.{Slot}
use Rattle.gm_semantics.specs.Stores.{slots_eq}
use Rattle.gm_totals.specs.Standing.{targets_of}
use Rattle.gm_totals.proofs.totals.Totals.search.Given as goal

-- none of the targets so far is it
abbrev pub invariant-loop-k : goal.invariant-loop-k
invariant-loop-k l = (j : ℕ) (d : List Slot) → j < l.k → slots_eq l.slots (get_or (targets_of l.self) j d) ≡ false
