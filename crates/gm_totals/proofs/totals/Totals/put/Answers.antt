-- Totals with one more contribution.
use Rattle.std.proofs.Common.{◌≡◌, ◌∙◌, ◌<◌, List, Some, get_or, length, sym, ap, subst, refl, arith}
use Rattle.std.specs.Prelude.{All}
use Rattle.std.proofs.lemmas.List.{get_or-map, length-map, map-set}
use Rattle.gm_semantics.specs.declared.slots.Slot.{Slot}
use Rattle.gm_store.specs.Held.{HasSlot}
use Rattle.gm_totals.specs.declared.pots.Pot.{Pot}
use Rattle.gm_totals.specs.declared.slots.Slots.{Slots}
use Rattle.gm_totals.specs.declared.totals.Totals.{Totals}
use Rattle.gm_totals.specs.Given.{given, slots_in, is_several}
use Rattle.gm_totals.specs.Pots.{PotGains}
use Rattle.gm_totals.specs.Standing.{keyed, IsPotOf}
use Rattle.gm_totals.proofs.Giving.{within-changed, stands-changed}
use Rattle.gm_totals.proofs.Placing.{key_of, length-keys, target-here}
use Rattle.gm_totals.proofs.totals.Totals.put.Goals as goal

pub returns-in_ok-give-in-Some-clause-stands : goal.returns-in_ok-give-in-Some-clause-stands
returns-in_ok-give-in-Some-clause-stands c =
    let old = c.args.self.now in
    let place = c.in-Some.place in
    let pair = c.index_mut.result.now in
    let slots = c.args.slots.now in
    let k = given c.args.total c.args.reduce slots c.args.values.now in
    let changed : Slots × Pot = (pair.0, c.give.new.self) in
    let at : IsPotOf old slots place = c.in-Some.ensures.found in
    let within : place < length old.pots.items = omega (arith, at.0, length-keys (keyed old), length-map old.pots.items key_of) in
    let key : slots_in pair.0 ≡ slots = target-here old place pair slots within c.index_mut.ensures.value ∙ at.1 slots in
    let new : Totals = record old { pots = Rattle.std.specs.Vec.with_item old.pots place changed } in
    let found : get_or (keyed old) place (key_of pair) ≡ key_of pair = get_or-map key_of old.pots.items place pair (key_of pair) within ∙ ap key_of (sym c.index_mut.ensures.value) in
    stands-changed old new place (slots_in pair.0) c.give.new.self (map-set key_of old.pots.items place changed) k (key_of pair) (subst (λ s. IsPotOf old s place) (sym key) at) key refl
    (subst (λ (e : List Slot × Pot). PotGains (is_several slots) (Some e.1) c.give.new.self k) (sym found)
    (subst (λ b. PotGains b (Some pair.1) c.give.new.self k) c.are_several-several.ensures (c.in_ok-give-in-Some.ensures c.args.reduce slots)))

pub returns-in_ok-give-in-Some-clause-within : goal.returns-in_ok-give-in-Some-clause-within
returns-in_ok-give-in-Some-clause-within c =
    let old = c.args.self.now in
    let place = c.in-Some.place in
    let pair = c.index_mut.result.now in
    let slots = c.args.slots.now in
    let changed : Slots × Pot = (pair.0, c.give.new.self) in
    let at : IsPotOf old slots place = c.in-Some.ensures.found in
    let within : place < length old.pots.items = omega (arith, at.0, length-keys (keyed old), length-map old.pots.items key_of) in
    let key : slots_in pair.0 ≡ slots = target-here old place pair slots within c.index_mut.ensures.value ∙ at.1 slots in
    let new : Totals = record old { pots = Rattle.std.specs.Vec.with_item old.pots place changed } in
    λ shape has all. within-changed old new place (slots_in pair.0) c.give.new.self (map-set key_of old.pots.items place changed) shape (subst (All (HasSlot shape)) (sym key) has) all

pub returns-in_ok-add-in-None-clause-stands : goal.returns-in_ok-add-in-None-clause-stands
returns-in_ok-add-in-None-clause-stands c = λ cs stands.
    c.in_ok-add-in-None.ensures.stands cs stands (c.in-None.ensures.none refl stands.placed)
