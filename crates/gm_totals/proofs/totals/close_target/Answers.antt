-- A target is closed.
use Rattle.std.proofs.Common.{◌≡◌, ◌∙◌, ◌∷◌, [], List, ap, sym, subst}
use Rattle.gm_semantics.specs.declared.slots.Slot.{Slot}
use Rattle.gm_totals.specs.Places.{head_of}
use Rattle.gm_totals.specs.Standing.{ClosesTarget}
use Rattle.gm_totals.proofs.Keys.{alone-head}
use Rattle.gm_totals.proofs.totals.close_target.Goals as goal

pub returns-then-are_several-clause-closes : goal.returns-then-are_several-clause-closes
returns-then-are_several-clause-closes c =
    subst (λ (slots : List Slot). ClosesTarget c.args.store.now slots c.args.pot.now c.args.closed.now c.close_several.new.closed) c.as_slice-slots.ensures c.in_ok-close_several.ensures.closes

pub returns-clause-closes : goal.returns-clause-closes
returns-clause-closes c =
    let slots = c.as_slice-slots.result.now in
    let alone : slots ≡ head_of slots ∷ [] = alone-head slots (sym c.are_several.ensures ∙ c.if-are_several.false) in
    subst (λ (slots : List Slot). ClosesTarget c.args.store.now slots c.args.pot.now c.args.closed.now c.close_one.new.closed)
    (ap (λ (x : Slot). x ∷ []) c.head_of.ensures ∙ sym alone ∙ c.as_slice-slots.ensures) c.in_ok-close_one.ensures.closes
