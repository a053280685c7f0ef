use Rattle.std.proofs.Common.{◌≡◌, drop}
use Rattle.gm_semantics.specs.Stores.{slots_eq}
use Rattle.gm_totals.proofs.slots.are_all_same.Given as goal

-- those so far are the same
abbrev pub invariant-loop-k : goal.invariant-loop-k
invariant-loop-k l = slots_eq l.some l.other ≡ slots_eq (drop l.k l.some) (drop l.k l.other)
