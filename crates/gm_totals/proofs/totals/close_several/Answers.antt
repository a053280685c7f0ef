-- A target of several slots is closed.
use Rattle.std.proofs.Common.{◌≡◌, ◌≢◌, ◌∙◌, List, Ok, Err, Result, length, ap, refl, sym, subst}
use Rattle.std.specs.declared.alloc.Global.{Global}
use Rattle.std.specs.declared.vec.Vec.{Vec}
use Rattle.std.proofs.lemmas.List.{length-map}
use Rattle.gm_value.specs.declared.values.Value.{Value}
use Rattle.gm_semantics.specs.declared.faults.Fault.{Fault}
use Rattle.gm_store.specs.Held.{held_at, shape_of}
use Rattle.gm_totals.specs.declared.totals.Closed.{Closed}
use Rattle.gm_totals.specs.Pots.{IsTaking, PotStands, answer_of_several}
use Rattle.gm_totals.specs.Standing.{Sets}
use Rattle.gm_totals.proofs.Closing.{closes-by}
use Rattle.gm_totals.proofs.Keys.{several-length}
use Rattle.gm_totals.proofs.totals.close_several.Goals as goal

pub returns-in-Ok-clause-closes : goal.returns-in-Ok-clause-closes
returns-in-Ok-clause-closes c =
    let old = c.args.closed.now in
    let new : Closed = record old { writes = c.write_each.new.writes } in
    let hs : List Value = c.in_ok-held.held.items in
    let same : c.as_slice.result.now ≡ hs = c.as_slice.ensures.value in
    let count : length hs ≡ length c.args.slots.now = ap length c.in_ok-held.ensures ∙ length-map c.args.slots.now (held_at c.args.store.now) in
    let many : length hs ≢ 1 = λ one. several-length c.args.slots.now c.requires.several (sym count ∙ one) in
    closes-by c.args.store.now c.args.slots.now c.args.pot.now old new (Ok c.in-Ok.values.items) hs c.in_ok-held.ensures
    (λ cs stands.
    let taken : IsTaking c.as_slice.result.now cs (answer_of_several c.in_ok-values.field-0) =
    c.in_ok-values.ensures cs (subst (λ (l : List Value). length l ≢ 1) (sym same) many) (subst (λ b. PotStands b c.args.pot.now cs) c.requires.several stands) in
    subst (λ (l : List Value). IsTaking l cs (answer_of_several (Ok c.in-Ok.values))) same (subst (λ (r : Result (Vec Value Global) Fault). IsTaking c.as_slice.result.now cs (answer_of_several r)) c.in-Ok.is taken))
    (subst (λ (vs : List Value). Sets c.args.slots.now vs old.writes.items new.writes.items) c.as_slice-in-Ok.ensures.value c.in_ok-write_each-in-Ok.ensures.sets) refl

pub returns-clause-closes : goal.returns-clause-closes
returns-clause-closes c =
    let old = c.args.closed.now in
    let new : Closed = record { writes = c.write_each-in-Err.new.writes; fault = c.lesser-closed.result } in
    let hs : List Value = c.in_ok-held.held.items in
    let same : c.as_slice.result.now ≡ hs = c.as_slice.ensures.value in
    let count : length hs ≡ length c.args.slots.now = ap length c.in_ok-held.ensures ∙ length-map c.args.slots.now (held_at c.args.store.now) in
    let many : length hs ≢ 1 = λ one. several-length c.args.slots.now c.requires.several (sym count ∙ one) in
    closes-by c.args.store.now c.args.slots.now c.args.pot.now old new (Err c.in-Err.fault) hs c.in_ok-held.ensures
    (λ cs stands.
    let taken : IsTaking c.as_slice.result.now cs (answer_of_several c.in_ok-values.field-0) =
    c.in_ok-values.ensures cs (subst (λ (l : List Value). length l ≢ 1) (sym same) many) (subst (λ b. PotStands b c.args.pot.now cs) c.requires.several stands) in
    subst (λ (l : List Value). IsTaking l cs (answer_of_several (Err c.in-Err.fault))) same (subst (λ (r : Result (Vec Value Global) Fault). IsTaking c.as_slice.result.now cs (answer_of_several r)) c.in-Err.is taken))
    (subst (λ (vs : List Value). Sets c.args.slots.now vs old.writes.items new.writes.items) c.as_slice-in-Err.ensures.value c.in_ok-write_each-in-Err.ensures.sets) c.lesser-closed.ensures

pub returns-in-Ok-clause-within : goal.returns-in-Ok-clause-within
returns-in-Ok-clause-within c = λ within. c.in_ok-write_each-in-Ok.ensures.within (shape_of c.args.store.now) c.requires.known within

pub returns-clause-within : goal.returns-clause-within
returns-clause-within c = λ within. c.in_ok-write_each-in-Err.ensures.within (shape_of c.args.store.now) c.requires.known within
