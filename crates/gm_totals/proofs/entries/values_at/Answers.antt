-- The values of a tuple, one after another.
use Rattle.std.proofs.Common.{◌+◌, List, map, sym, subst, refl}
use Rattle.gm_value.specs.declared.values.Value.{Value}
use Rattle.gm_value.specs.Numbers.{number_of}
use Rattle.gm_totals.proofs.Tuples.{AreSoFar, far-none, far-more, far-out, far-all}
use Rattle.gm_totals.proofs.entries.values_at.Goals as goal

pub loop-k-init : goal.loop-k-init
loop-k-init c =
    subst (λ (vs : List Value). AreSoFar c.args.held.now (map number_of c.args.tuple.now) 0 vs) (sym c.in_ok-values.ensures.items) (far-none c.args.held.now (map number_of c.args.tuple.now))

pub loop-k-preserved : goal.loop-k-preserved
loop-k-preserved c =
    let held = c.args.held.now in
    let tuple = map number_of c.args.tuple.now in
    let k = c.loop-k.k in
    subst (λ (vs : List Value). AreSoFar held tuple (k + 1) vs) (sym c.in_ok-push-in-Some.ensures.items)
    (far-more held tuple k c.loop-k.values.items _ c.in-Some.value _ c.loop-k-test.true refl c.loop-k.invariant c.in-Some.ensures)

pub returns-in-None : goal.returns-in-None
returns-in-None c =
    let held = c.args.held.now in
    let tuple = map number_of c.args.tuple.now in
    far-out held tuple c.loop-k.k c.loop-k.values.items _ _ c.loop-k-test.true refl c.loop-k.invariant c.in-None.ensures

pub returns : goal.returns
returns c = far-all c.args.held.now (map number_of c.args.tuple.now) c.loop-k.k c.loop-k.values.items c.loop-k-test.false c.loop-k.invariant
