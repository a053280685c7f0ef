-- The totals of several slots are closed one after another.
use Rattle.std.proofs.Common.{◌≡◌, ◌≢◌, ◌∙◌, List, Option, length, true, ap, subst, sym}
use Rattle.std.specs.Prelude.{option_map, IfSome}
use Rattle.std.specs.declared.alloc.Global.{Global}
use Rattle.std.specs.declared.vec.Vec.{Vec}
use Rattle.gm_value.specs.declared.values.Value.{Value}
use Rattle.gm_semantics.specs.Faults.{total_fault}
use Rattle.gm_semantics.specs.Contributions.{Contribution, close_by}
use Rattle.gm_totals.specs.declared.entries.Entry.{Entry}
use Rattle.gm_totals.specs.Pots.{TotalStands, items_in}
use Rattle.gm_totals.proofs.Takings.{first-more, first-err, loop-more, loop-err, loop-ok}
use Rattle.gm_totals.proofs.pots.Pot.closed_several.Goals as goal

pub returns-in-None : goal.returns-in-None
returns-in-None c = λ cs many stands.
    first-err true c.args.self.now c.args.held.now cs stands (option_map items_in c.in_ok-values.field-0) c.total_fault.result (λ bag h. c.in_ok-values.ensures.closes bag many h)
    (ap (option_map items_in) c.in-None.is) c.total_fault.ensures

pub loop-entry-init : goal.loop-entry-init
loop-entry-init c =
    let held = c.args.held.now in
    let same : length c.in-Some.values.items ≡ length held = subst (λ (o : Option (Vec Value Global)). IfSome o (λ after. length after.items ≡ length held)) c.in-Some.is c.in_ok-values.ensures.length in
    record {
      many = λ many one. many (sym same ∙ one);
      upto = λ cs stands many.
          first-more true c.args.self.now held cs stands (option_map items_in c.in_ok-values.field-0) c.in-Some.values.items (λ bag h. c.in_ok-values.ensures.closes bag many h)
          (ap (option_map items_in) c.in-Some.is);
    }

pub returns-in-None-2 : goal.returns-in-None-2
returns-in-None-2 c = λ cs many stands.
    let pot = c.args.self.now in
    let closes : (bag : List Contribution) → length c.loop-entry.values.items ≢ 1 → TotalStands true pot.reduce c.entry-item.result bag → option_map items_in c.in_ok-values-2.field-0 ≡ close_by pot.reduce c.loop-entry.values.items bag =
    subst (λ (l : List Value). (bag : List Contribution) → length l ≢ 1 → TotalStands true pot.reduce c.entry-item.result bag → option_map items_in c.in_ok-values-2.field-0 ≡ close_by pot.reduce l bag) c.as_slice.ensures.value c.in_ok-values-2.ensures.closes in
    loop-err true pot c.args.held.now cs stands c.deref-entry-items.result.now c.loop-entry.entry-index c.entry-item.result c.loop-entry.values.items (option_map items_in c.in_ok-values-2.field-0) c.total_fault-in-None-2.result
    c.deref-entry-items.ensures.value c.loop-entry-test.true (c.loop-entry.invariant.upto cs stands many)
    (λ bag h. closes bag (c.loop-entry.invariant.many many) (subst (λ (e : Entry). TotalStands true pot.reduce e bag) (sym c.entry-item.is) h)) (ap (option_map items_in) c.in-None-2.is)
    (c.total_fault-in-None-2.ensures ∙ ap (λ (e : Entry). total_fault e.key) c.entry-item.is)

pub loop-entry-preserved : goal.loop-entry-preserved
loop-entry-preserved c =
    let pot = c.args.self.now in
    let closes : (bag : List Contribution) → length c.loop-entry.values.items ≢ 1 → TotalStands true pot.reduce c.entry-item.result bag → option_map items_in c.in_ok-values-2.field-0 ≡ close_by pot.reduce c.loop-entry.values.items bag =
    subst (λ (l : List Value). (bag : List Contribution) → length l ≢ 1 → TotalStands true pot.reduce c.entry-item.result bag → option_map items_in c.in_ok-values-2.field-0 ≡ close_by pot.reduce l bag) c.as_slice.ensures.value c.in_ok-values-2.ensures.closes in
    let same : length c.in-Some-2.values.items ≡ length c.loop-entry.values.items =
    subst (λ (o : Option (Vec Value Global)). IfSome o (λ after. length after.items ≡ length c.loop-entry.values.items)) c.in-Some-2.is
    (subst (λ (l : List Value). IfSome c.in_ok-values-2.field-0 (λ after. length after.items ≡ length l)) c.as_slice.ensures.value c.in_ok-values-2.ensures.length) in
    record {
      many = λ many one. c.loop-entry.invariant.many many (sym same ∙ one);
      upto = λ cs stands many.
          loop-more true pot c.args.held.now cs stands c.deref-entry-items.result.now c.loop-entry.entry-index c.entry-item.result c.loop-entry.values.items c.in-Some-2.values.items (option_map items_in c.in_ok-values-2.field-0)
          c.deref-entry-items.ensures.value c.loop-entry-test.true (c.loop-entry.invariant.upto cs stands many)
          (λ bag h. closes bag (c.loop-entry.invariant.many many) (subst (λ (e : Entry). TotalStands true pot.reduce e bag) (sym c.entry-item.is) h)) (ap (option_map items_in) c.in-Some-2.is);
    }

pub returns : goal.returns
returns c = λ cs many stands.
    loop-ok true c.args.self.now c.args.held.now cs stands c.deref-entry-items.result.now c.loop-entry.entry-index c.loop-entry.values.items c.deref-entry-items.ensures.value c.loop-entry-test.false
    (c.loop-entry.invariant.upto cs stands many)
