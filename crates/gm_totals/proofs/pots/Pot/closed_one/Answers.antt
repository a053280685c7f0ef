-- The totals of one slot are closed one after another.
use Rattle.std.proofs.Common.{[], ◌∷◌, ◌∙◌, false, ap, subst, sym}
use Rattle.std.specs.Prelude.{option_map}
use Rattle.gm_totals.specs.Pots.{TotalStands, listed}
use Rattle.gm_totals.specs.declared.entries.Entry.{Entry}
use Rattle.gm_semantics.specs.Faults.{total_fault}
use Rattle.gm_totals.proofs.Takings.{first-more, first-err, loop-more, loop-err, loop-ok}
use Rattle.gm_totals.proofs.pots.Pot.closed_one.Goals as goal

pub returns-in-None : goal.returns-in-None
returns-in-None c = λ cs stands.
    first-err false c.args.self.now (c.args.held ∷ []) cs stands (option_map listed c.in_ok-value.field-0) c.total_fault.result c.in_ok-value.ensures (ap (option_map listed) c.in-None.is) c.total_fault.ensures

pub loop-entry-init : goal.loop-entry-init
loop-entry-init c = λ cs stands.
    first-more false c.args.self.now (c.args.held ∷ []) cs stands (option_map listed c.in_ok-value.field-0) (c.in-Some.value ∷ []) c.in_ok-value.ensures (ap (option_map listed) c.in-Some.is)

pub returns-in-None-2 : goal.returns-in-None-2
returns-in-None-2 c = λ cs stands.
    loop-err false c.args.self.now (c.args.held ∷ []) cs stands c.deref-entry-items.result.now c.loop-entry.entry-index c.entry-item.result (c.loop-entry.value ∷ []) (option_map listed c.in_ok-value-2.field-0) c.total_fault-in-None-2.result
    c.deref-entry-items.ensures.value c.loop-entry-test.true (c.loop-entry.invariant cs stands)
    (λ bag h. c.in_ok-value-2.ensures bag (subst (λ (e : Entry). TotalStands false c.args.self.now.reduce e bag) (sym c.entry-item.is) h)) (ap (option_map listed) c.in-None-2.is)
    (c.total_fault-in-None-2.ensures ∙ ap (λ (e : Entry). total_fault e.key) c.entry-item.is)

pub loop-entry-preserved : goal.loop-entry-preserved
loop-entry-preserved c = λ cs stands.
    loop-more false c.args.self.now (c.args.held ∷ []) cs stands c.deref-entry-items.result.now c.loop-entry.entry-index c.entry-item.result (c.loop-entry.value ∷ []) (c.in-Some-2.value ∷ []) (option_map listed c.in_ok-value-2.field-0)
    c.deref-entry-items.ensures.value c.loop-entry-test.true (c.loop-entry.invariant cs stands)
    (λ bag h. c.in_ok-value-2.ensures bag (subst (λ (e : Entry). TotalStands false c.args.self.now.reduce e bag) (sym c.entry-item.is) h)) (ap (option_map listed) c.in-Some-2.is)

pub returns : goal.returns
returns c = λ cs stands.
    loop-ok false c.args.self.now (c.args.held ∷ []) cs stands c.deref-entry-items.result.now c.loop-entry.entry-index (c.loop-entry.value ∷ []) c.deref-entry-items.ensures.value c.loop-entry-test.false
    (c.loop-entry.invariant cs stands)
