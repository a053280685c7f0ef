-- Contributions as the code has them.
use Rattle.std.specs.Prelude.{Bool, true, false, List, [], ◌∷◌}
use Rattle.gm_value.specs.declared.values.Value.{Value}
use Rattle.gm_value.specs.declared.reductions.Reduce.{Reduce}
use Rattle.gm_ast.specs.declared.tree.TotalKey.{TotalKey}
use Rattle.gm_semantics.specs.declared.slots.Slot.{Slot}
use Rattle.gm_semantics.specs.Contributions as S
use Rattle.gm_totals.specs.declared.contributions.Contribution.{Contribution}
use Rattle.gm_totals.specs.declared.slots.Slots.{Slots}
use Rattle.gm_totals.specs.declared.slots.Slots.TheVariants.{One, Several}

-- a contribution to the slots of a target
abbrev pub given : TotalKey → Reduce → List Slot → List Value → S.Contribution
given total r slots values = record { total = total; reduce = r; slots = slots; values = values }

-- a contribution of one value to one slot
abbrev pub single : Contribution → S.Contribution
single c = given c.total c.reduce (c.slot ∷ []) (c.value ∷ [])

-- the slots of a target
abbrev pub slots_in : Slots → List Slot
slots_in (One slot) = slot ∷ []
slots_in (Several slots) = slots.value.items

-- whether a target is anything but one slot
abbrev pub is_several : List Slot → Bool
is_several (x ∷ []) = false
is_several _ = true
