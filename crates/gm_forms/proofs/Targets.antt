-- Slots of targets, each by its own.
use Rattle.std.proofs.Common.{◌≡◌, Bool, true, false, List, [], ◌∷◌, refl, sym, subst}
use Rattle.std.specs.Prelude.{◌||◌}
use Rattle.gm_semantics.specs.declared.slots.Slot.{Slot}
use Rattle.gm_semantics.specs.Stores.{slot_eq, has_slot}
use Rattle.gm_semantics.proofs.ContributionLaws.{slot_eq-true}
use Rattle.gm_semantics.proofs.TargetLaws.{never}
use Rattle.gm_forms.specs.Doing.{EachSlot}

-- what is true of each slot, read by the test
pub each-slot : (P : Slot → Type 0) (slots : List Slot) → EachSlot P slots → (slot : Slot) → has_slot slot slots ≡ true → P slot
each-slot P [] each slot has = never has refl
each-slot P (x ∷ xs) each slot has = by (slot_eq slot x) refl (λ h. each-slot P xs each.1 slot h) has
  where
    by : (b : Bool) → slot_eq slot x ≡ b → (has_slot slot xs ≡ true → P slot) → b || has_slot slot xs ≡ true → P slot
    by true e rest h = subst P (sym (slot_eq-true slot x e)) each.0
    by false e rest h = rest h
