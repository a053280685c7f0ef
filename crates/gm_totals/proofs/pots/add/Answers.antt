-- Totals with one more contribution at the place of its statement.
use Rattle.std.proofs.Common.{◌≡◌, ◌<◌, ◌≤◌, length, get_or, subst, sym, ap, ◌∙◌, arith}
use Rattle.std.proofs.lemmas.List.{get_or_default}
use Rattle.gm_totals.specs.declared.entries.Entry.{Entry}
use Rattle.gm_totals.specs.Given.{given}
use Rattle.gm_totals.specs.Pots.{AreFrom, Gains, IsPlace}
use Rattle.gm_totals.proofs.Gaining.{gains-set, gains-insert}
use Rattle.gm_totals.proofs.pots.add.Goals.{else-place-len-via-then-place-len+else-index-statement, else-place-len-via-else-place-len}
use Rattle.gm_totals.proofs.pots.add.Goals as goal

pub returns-then-index-statement : goal.returns-then-index-statement
returns-then-index-statement c = λ by slots low from.
    let es = c.args.entries.now.items in
    let i = c.place_of-place.result in
    let s = c.args.key.key.statement in
    let e = c.give.new.self in
    let x = c.index_mut.result.now in
    let here : AreFrom low c.deref.result.now = subst (AreFrom low) (sym c.deref.ensures.value) from in
    let place : IsPlace s es i = subst (λ l. IsPlace s l i) c.deref.ensures.value (c.place_of-place.ensures.place low here) in
    let within : i < length es = omega arith in
    let y = c.index.result.now in
    let one : x ≡ y = c.index_mut.ensures.value ∙ get_or_default es i x y within ∙ sym c.index.ensures in
    let own : x.statement ≡ s = ap (λ (z : Entry). z.statement) one ∙ c.if-index-statement.true in
    gains-set c.args.several c.args.reduce (given c.args.key by slots c.args.values.now) es i x e within (λ k h. place.0 k e h) (c.index_mut.ensures.value ∙ get_or_default es i x e within) own
    (c.in_ok-give.ensures c.args.several by slots) low from

pub returns : goal.returns
returns c = λ by slots low from.
    let es = c.args.entries.now.items in
    let i = c.place_of-place.result in
    let s = c.args.key.key.statement in
    let k = given c.args.key by slots c.args.values.now in
    let e = c.in_ok-new.field-0 in
    let here : AreFrom low c.deref.result.now = subst (AreFrom low) (sym c.deref.ensures.value) from in
    let place : IsPlace s es i = subst (λ l. IsPlace s l i) c.deref.ensures.value (c.place_of-place.ensures.place low here) in
    let within : i ≤ length es = subst (λ l. i ≤ length l) c.deref.ensures.value c.place_of-place.ensures.within in
    let above : i < length es → s < (get_or es i e).statement = λ h.
    elim c.else-place-len.branch [
      | else-place-len-via-then-place-len+else-index-statement w ↦
          let y = w.index.result.now in
          let one : y.statement ≡ (get_or es i e).statement = ap (λ (z : Entry). z.statement) (w.index.ensures ∙ get_or_default es i y e h) in
          let at_least : s ≤ (get_or es i e).statement = place.1 e h in
          let other = w.if-index-statement.false in
          omega arith
      | else-place-len-via-else-place-len w ↦ absurd (omega (arith, w.if-place-len.false))
    ] in
    let gains = gains-insert c.args.several c.args.reduce k es i e within (λ j h. place.0 j e h) above (c.in_ok-new.ensures by slots) in
    subst (λ new. Gains c.args.several c.args.reduce es new k) (sym c.in_ok-insert.ensures.items) gains low from
