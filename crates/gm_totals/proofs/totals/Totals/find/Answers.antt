-- The place of a target's pot.
use Rattle.std.proofs.Common.{◌∙◌, ◌<◌, ◌≤◌, length, sym, ap, arith}
use Rattle.gm_semantics.specs.declared.slots.Slot.{Slot}
use Rattle.gm_semantics.specs.Stores.{slot_eq}
use Rattle.gm_totals.proofs.Placing.{unplaced-none, past-head, other-head, found-here}
use Rattle.gm_totals.proofs.totals.Totals.find.Goals as goal

pub returns-then-place-len-clause-none : goal.returns-then-place-len-clause-none
returns-then-place-len-clause-none c = λ none placed.
    let totals = c.args.self.now in
    let past : length totals.pots.items ≤ c.get-place.result = omega arith in
    unplaced-none totals placed c.args.slots.now (past-head totals c.args.slots.now c.head_of-head.result c.get-place.result c.head_of-head.ensures c.get-place.ensures past)

pub returns-then-are_same-clause-found : goal.returns-then-are_same-clause-found
returns-then-are_same-clause-found c =
    let totals = c.args.self.now in
    let within : c.get-place.result < length totals.pots.items = omega arith in
    found-here totals c.args.slots.now c.get-place.result c.target_at-here.result.now within c.target_at-here.ensures (sym c.are_same.ensures ∙ c.if-are_same.true)

pub returns-clause-none : goal.returns-clause-none
returns-clause-none c = λ none placed.
    let totals = c.args.self.now in
    unplaced-none totals placed c.args.slots.now
    (other-head totals c.args.slots.now c.head_of-head.result c.get-place.result c.target_at-here.result.now c.head_of-head.ensures c.get-place.ensures c.target_at-here.ensures
    (ap (λ (x : Slot). slot_eq x c.head_of-head.result) (sym c.head_of.ensures) ∙ sym c.is_same.ensures ∙ c.if-is_same.false))
