-- Slots are compared one after another.
use Rattle.std.proofs.Common.{◌<◌, ◌≤◌, length, arith, sym, ◌∙◌}
use Rattle.gm_totals.proofs.Keys.{eq-step, eq-out, eq-end}
use Rattle.gm_totals.proofs.slots.are_all_same.Goals as goal

pub returns-then-not-is_same : goal.returns-then-not-is_same
returns-then-not-is_same c =
    let some = c.args.some.now in
    let other = c.args.other.now in
    let h : c.loop-k.k < length some = c.loop-k-test.true in
    let g : c.loop-k.k < length other = omega arith in
    sym (c.loop-k.invariant ∙ eq-out some other c.loop-k.k _ _ h g (sym c.is_same.ensures ∙ c.if-not-is_same.true))

pub loop-k-preserved : goal.loop-k-preserved
loop-k-preserved c =
    let some = c.args.some.now in
    let other = c.args.other.now in
    let h : c.loop-k.k < length some = c.loop-k-test.true in
    let g : c.loop-k.k < length other = omega arith in
    c.loop-k.invariant ∙ eq-step some other c.loop-k.k _ _ h g (sym c.is_same.ensures ∙ c.if-not-is_same.false)

pub returns : goal.returns
returns c =
    let some = c.args.some.now in
    let other = c.args.other.now in
    let past : length other ≤ c.loop-k.k = omega arith in
    sym (c.loop-k.invariant ∙ eq-end some other c.loop-k.k c.loop-k-test.false past)
