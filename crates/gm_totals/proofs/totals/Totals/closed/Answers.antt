-- The targets of totals are closed one after another, the last one first.
use Rattle.std.proofs.Common.{◌≡◌, ◌<◌, ◌≤◌, ◌∙◌, ◌+◌, ◌-◌, List, length, get_or, None, refl, sym, ap, subst, arith}
use Rattle.std.specs.Prelude.{All}
use Rattle.std.proofs.lemmas.List.{get_or-map, length-map}
use Rattle.gm_semantics.specs.declared.slots.Slot.{Slot}
use Rattle.gm_store.specs.Held.{HasSlot, shape_of}
use Rattle.gm_totals.specs.declared.pots.Pot.{Pot}
use Rattle.gm_totals.specs.Standing.{keyed, ClosesTarget}
use Rattle.gm_totals.proofs.Closing.{AreLast, has-pot, targets-next, closed-none, all-settled}
use Rattle.gm_totals.proofs.Placing.{key_of}
use Rattle.gm_totals.proofs.totals.Totals.closed.Goals as goal

pub index-pair-requires : goal.index-pair-requires
index-pair-requires c =
    let within : c.loop-k.k ≤ length c.args.self.now.pots.items = c.loop-k.invariant.within in
    omega (arith, within)

pub returns-clause-within : goal.returns-clause-within
returns-clause-within c = c.loop-k.invariant.last.within

pub close_target-requires : goal.close_target-requires
close_target-requires c =
    let totals = c.args.self.now in
    let inside : c.loop-k.k ≤ length totals.pots.items = c.loop-k.invariant.within in
    let left : 0 < c.loop-k.k = c.loop-k-test.true in
    let k = c.loop-k.k - 1 in
    let pair = c.index-pair.result.now in
    let some : k < length totals.pots.items = omega (arith, inside, left) in
    let h : k < length (keyed totals) = subst (λ n. k < n) (sym (length-map totals.pots.items key_of)) some in
    let is : get_or (keyed totals) k (key_of pair) ≡ key_of pair = get_or-map key_of totals.pots.items k pair (key_of pair) some ∙ ap key_of (sym c.index-pair.ensures) in
    let found = has-pot (keyed totals) k (key_of pair) h in
    subst (λ (p : List Slot × Pot). All (HasSlot (shape_of c.args.store.now)) p.0) is (c.requires (get_or (keyed totals) k (key_of pair)).0 found.0 found.1)

pub loop-k-init : goal.loop-k-init
loop-k-init c =
    let totals = c.args.self.now in
    let count : c.len-k.result ≡ length totals.pots.items = omega (arith, c.len-k.ensures) in
    let past : length (keyed totals) ≤ c.len-k.result = omega (arith, count, length-map totals.pots.items key_of) in
    record {
      within = omega (arith, count);
      last = closed-none c.args.store.now totals c.len-k.result (record { writes = c.in_ok-with_capacity.field-0; fault = None }) past c.in_ok-with_capacity.ensures.items refl;
    }

pub loop-k-preserved : goal.loop-k-preserved
loop-k-preserved c =
    let totals = c.args.self.now in
    let inside : c.loop-k.k ≤ length totals.pots.items = c.loop-k.invariant.within in
    let left : 0 < c.loop-k.k = c.loop-k-test.true in
    let k = c.loop-k.k - 1 in
    let pair = c.index-pair.result.now in
    let some : k < length totals.pots.items = omega (arith, inside, left) in
    let h : k < length (keyed totals) = subst (λ n. k < n) (sym (length-map totals.pots.items key_of)) some in
    let is : get_or (keyed totals) k (key_of pair) ≡ key_of pair = get_or-map key_of totals.pots.items k pair (key_of pair) some ∙ ap key_of (sym c.index-pair.ensures) in
    let back : c.loop-k.k ≡ k + 1 = omega (arith, left) in
    record {
      within = omega (arith, some);
      last = targets-next c.args.store.now totals k (key_of pair) c.loop-k.closed c.close_target.new.closed h (subst (λ n. AreLast c.args.store.now totals n c.loop-k.closed) back c.loop-k.invariant.last)
          (subst (λ (p : List Slot × Pot). ClosesTarget c.args.store.now p.0 p.1 c.loop-k.closed c.close_target.new.closed) (sym is) c.in_ok-close_target.ensures.closes) c.in_ok-close_target.ensures.within;
    }

pub returns-clause-settles : goal.returns-clause-settles
returns-clause-settles c =
    let end : c.loop-k.k ≡ 0 = omega arith in
    all-settled c.args.store.now c.args.self.now c.loop-k.closed (subst (λ n. AreLast c.args.store.now c.args.self.now n c.loop-k.closed) end c.loop-k.invariant.last)
