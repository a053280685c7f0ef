-- A contribution to several slots is put.
use Rattle.std.proofs.Common.{List, ◌++◌, ◌∷◌, [], sym, subst}
use Rattle.std.specs.Prelude.{All}
use Rattle.gm_semantics.specs.declared.slots.Slot.{Slot}
use Rattle.gm_store.specs.Held.{HasSlot}
use Rattle.gm_totals.specs.Given.{given}
use Rattle.gm_totals.specs.Standing.{StandsFor}
use Rattle.gm_totals.proofs.totals.Totals.give_tuple.Goals as goal

pub returns-clause-stands : goal.returns-clause-stands
returns-clause-stands c = λ cs stands.
    subst (λ (slots : List Slot). StandsFor c.put.new.self (cs ++ given c.args.total c.args.reduce slots c.args.values.now ∷ [])) c.as_slice.ensures.value (c.in_ok-put.ensures.stands cs stands)

pub returns-clause-within : goal.returns-clause-within
returns-clause-within c = λ shape has all. c.in_ok-put.ensures.within shape (subst (λ (slots : List Slot). All (HasSlot shape) slots) (sym c.as_slice.ensures.value) has) all
