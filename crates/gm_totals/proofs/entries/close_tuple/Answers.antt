-- Held values closed with one contribution.
use Rattle.std.proofs.Common.{◌≡◌, ◌∙◌, length, Ok, Err, Some, ap, arith}
use Rattle.gm_totals.proofs.Joining.{tuple-once, one-once}
use Rattle.gm_totals.proofs.entries.close_tuple.Goals as goal

pub returns-then-held-ne1 : goal.returns-then-held-ne1
returns-then-held-ne1 c = c.in_ok-after.ensures ∙ tuple-once c.args.reduce c.args.held.now c.args.values.now c.if-held-ne1.true

pub returns-in_ok-after-in-Ok : goal.returns-in_ok-after-in-Ok
returns-in_ok-after-in-Ok c =
    let one : length c.args.held.now ≡ 1 = omega arith in
    ap Some c.in_ok-after-in-Ok.ensures ∙ one-once c.args.reduce c.args.held.now c.args.values.now c.only-first.result (Ok c.in-Ok.value) one c.only-first.ensures c.in-Ok.ensures

pub returns-in-Err : goal.returns-in-Err
returns-in-Err c =
    let one : length c.args.held.now ≡ 1 = omega arith in
    one-once c.args.reduce c.args.held.now c.args.values.now c.only-first.result (Err c.in-Err.field-0) one c.only-first.ensures c.in-Err.ensures
