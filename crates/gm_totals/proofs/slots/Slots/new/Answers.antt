-- Some slots, of which one stands alone.
use Rattle.std.proofs.Common.{◌∙◌, ◌∷◌, [], ap, sym}
use Rattle.gm_semantics.specs.declared.slots.Slot.{Slot}
use Rattle.gm_totals.proofs.Keys.{alone-head}
use Rattle.gm_totals.proofs.slots.Slots.new.Goals as goal

pub returns : goal.returns
returns c = ap (λ (x : Slot). x ∷ []) c.head_of.ensures ∙ sym (alone-head c.args.slots.now (sym c.are_several.ensures ∙ c.if-are_several.false))
