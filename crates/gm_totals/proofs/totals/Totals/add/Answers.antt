-- A pot put behind the others, at the place that is kept for its first slot.
use Rattle.std.proofs.Common.{◌≡◌, ◌∙◌, List, map, [], ◌∷◌, ◌++◌, length, arith, ap, subst, None}
use Rattle.std.proofs.lemmas.List.{length-map, map-append}
use Rattle.gm_semantics.specs.declared.slots.Slot.{Slot}
use Rattle.gm_totals.specs.declared.totals.Totals.{Totals}
use Rattle.gm_totals.specs.Given.{given}
use Rattle.gm_totals.specs.Places.{head_of, HasOneMore}
use Rattle.gm_totals.specs.Pots.{PotGains}
use Rattle.gm_totals.specs.Standing.{keyed, targets_of}
use Rattle.gm_totals.proofs.Giving.{stands-added, within-added}
use Rattle.gm_totals.proofs.Placing.{key_of, length-keys}
use Rattle.gm_totals.proofs.totals.Totals.add.Goals as goal

pub returns-clause-stands : goal.returns-clause-stands
returns-clause-stands c =
    let old = c.args.self.now in
    let slots = c.args.slots.now in
    let pot = c.in_ok-pot.pot in
    let new : Totals = record { alloc = old.alloc; places = c.keep.new.self; pots = c.push.new.self } in
    let k = given c.args.total c.args.reduce slots c.args.values.now in
    let place : c.len-place.result ≡ length (targets_of old) = omega (arith, c.len-place.ensures, length-keys (keyed old), length-map old.pots.items key_of) in
    let items : keyed new ≡ keyed old ++ (slots, pot) ∷ [] =
    ap (map key_of) c.in_ok-push.ensures.items ∙ map-append key_of old.pots.items ((c.in_ok-target.target, pot) ∷ []) ∙ ap (λ (s : List Slot). keyed old ++ (s, pot) ∷ []) c.in_ok-target.ensures in
    stands-added old new k pot items
    (subst (λ n. HasOneMore old.places c.keep.new.self (head_of slots) n) place (subst (λ (x : Slot). HasOneMore old.places c.keep.new.self x c.len-place.result) c.head_of.ensures c.in_ok-keep.ensures))
    (subst (λ b. PotGains b None pot k) c.are_several.ensures (c.in_ok-pot.ensures slots))

pub returns-clause-within : goal.returns-clause-within
returns-clause-within c =
    let old = c.args.self.now in
    let slots = c.args.slots.now in
    let pot = c.in_ok-pot.pot in
    let new : Totals = record { alloc = old.alloc; places = c.keep.new.self; pots = c.push.new.self } in
    let k = given c.args.total c.args.reduce slots c.args.values.now in
    let items : keyed new ≡ keyed old ++ (slots, pot) ∷ [] =
    ap (map key_of) c.in_ok-push.ensures.items ∙ map-append key_of old.pots.items ((c.in_ok-target.target, pot) ∷ []) ∙ ap (λ (s : List Slot). keyed old ++ (s, pot) ∷ []) c.in_ok-target.ensures in
    within-added old new k pot items
