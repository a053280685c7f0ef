-- A target of one slot is closed.
use Rattle.std.proofs.Common.{[], ◌∷◌, List, Ok, Err, Result, ap, refl, sym, subst}
use Rattle.gm_value.specs.declared.values.Value.{Value}
use Rattle.gm_semantics.specs.declared.faults.Fault.{Fault}
use Rattle.gm_semantics.specs.declared.slots.Write.{Write}
use Rattle.gm_totals.specs.declared.totals.Closed.{Closed}
use Rattle.gm_totals.specs.Pots.{IsTaking, answer_of_one}
use Rattle.gm_totals.specs.Standing.{Sets}
use Rattle.gm_totals.proofs.Closing.{closes-by}
use Rattle.gm_totals.proofs.Settling.{sets-one}
use Rattle.gm_totals.proofs.totals.close_one.Goals as goal

pub returns-in_ok-push-in-Ok-clause-closes : goal.returns-in_ok-push-in-Ok-clause-closes
returns-in_ok-push-in-Ok-clause-closes c =
    let old = c.args.closed.now in
    let new : Closed = record old { writes = c.push.new.self } in
    let slots = c.args.slot ∷ [] in
    let held = c.read-held.result ∷ [] in
    closes-by c.args.store.now slots c.args.pot.now old new (Ok (c.in-Ok.value ∷ [])) held (ap (λ (v : Value). v ∷ []) c.read-held.ensures)
    (λ cs stands. subst (λ (r : Result Value Fault). IsTaking held cs (answer_of_one r)) c.in-Ok.is (c.in_ok-value.ensures cs stands))
    (subst (λ (ws : List Write). Sets slots (c.in-Ok.value ∷ []) old.writes.items ws) (sym c.in_ok-push-in-Ok.ensures.items) (sets-one c.args.slot c.in-Ok.value old.writes.items)) refl

pub returns-in_ok-push-in-Err-clause-closes : goal.returns-in_ok-push-in-Err-clause-closes
returns-in_ok-push-in-Err-clause-closes c =
    let old = c.args.closed.now in
    let new : Closed = record { writes = c.push-in-Err.new.self; fault = c.lesser-closed.result } in
    let slots = c.args.slot ∷ [] in
    let held = c.read-held.result ∷ [] in
    closes-by c.args.store.now slots c.args.pot.now old new (Err c.in-Err.fault) held (ap (λ (v : Value). v ∷ []) c.read-held.ensures)
    (λ cs stands. subst (λ (r : Result Value Fault). IsTaking held cs (answer_of_one r)) c.in-Err.is (c.in_ok-value.ensures cs stands))
    (subst (λ (ws : List Write). Sets slots held old.writes.items ws) (sym c.in_ok-push-in-Err.ensures.items) (sets-one c.args.slot c.read-held.result old.writes.items)) c.lesser-closed.ensures
