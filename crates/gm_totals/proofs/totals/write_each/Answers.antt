-- Values are written to slots, the last first.
use Rattle.std.proofs.Common.{◌≡◌, ◌+◌, ◌-◌, ◌<◌, drop, List, sym, subst, arith, refl}
use Rattle.gm_semantics.specs.declared.slots.Write.{Write}
use Rattle.gm_totals.specs.Standing.{Sets}
use Rattle.gm_totals.proofs.Settling.{Written, written-none, written-more}
use Rattle.gm_totals.proofs.totals.write_each.Goals as goal

pub loop-k-init : goal.loop-k-init
loop-k-init c = written-none c.args.slots.now c.args.values.now c.min-k.result c.args.writes.now.items c.min-k.ensures

pub loop-k-preserved : goal.loop-k-preserved
loop-k-preserved c =
    let slots = c.args.slots.now in
    let values = c.args.values.now in
    let old = c.args.writes.now.items in
    let some : 0 < c.loop-k.k = c.loop-k-test.true in
    let back : c.loop-k.k ≡ (c.loop-k.k - 1) + 1 = omega (arith, some) in
    subst (λ (ws : List Write). Written slots values (c.loop-k.k - 1) old ws) (sym c.in_ok-push.ensures.items)
    (written-more slots values (c.loop-k.k - 1) old c.loop-k.writes.items _ _ _ _ (subst (λ n. Written slots values n old c.loop-k.writes.items) back c.loop-k.invariant) refl refl)

pub returns-clause-sets : goal.returns-clause-sets
returns-clause-sets c =
    let end : c.loop-k.k ≡ 0 = omega arith in
    subst (λ n. Sets (drop n c.args.slots.now) (drop n c.args.values.now) c.args.writes.now.items c.loop-k.writes.items) end c.loop-k.invariant.sets
