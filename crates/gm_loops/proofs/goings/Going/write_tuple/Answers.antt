use Rattle.std.proofs.Common.{◌≡◌, ◌∙◌, ◌<◌, ◌≤◌, length, min, get_or, refl, sym, subst, arith}
use Rattle.gm_semantics.specs.declared.slots.Slot.TheVariants.{Scalar}
use Rattle.gm_store.specs.Held.{Shape, HasSlot}
use Rattle.gm_store.specs.Laws.{IsLogged}
use Rattle.gm_loops.proofs.Effects.{does-write}
use Rattle.gm_loops.proofs.Together.{wrote-first, wrote-next, wrote-last}
use Rattle.gm_loops.proofs.goings.Going.write_tuple.Goals as goal

pub write-requires : goal.write-requires
write-requires c =
    let lt : c.loop-k.k < length c.args.slots.now = omega (arith, c.loop-k-test.true, c.min-count.ensures) in
    subst (λ (s : Shape). HasSlot s (get_or c.args.slots.now c.loop-k.k (Scalar 0))) (sym c.loop-k.invariant.0) (c.requires c.loop-k.k (Scalar 0) lt)

pub loop-k-init : goal.loop-k-init
loop-k-init c = (refl, λ f m. wrote-first f m c.args.self.now c.args.slots.now c.args.values.now)

pub loop-k-preserved : goal.loop-k-preserved
loop-k-preserved c =
    let slots = c.args.slots.now in
    let values = c.args.values.now in
    let k = c.loop-k.k in
    let in_slots : k < length slots = omega (arith, c.loop-k-test.true, c.min-count.ensures) in
    let in_values : k < length values = omega (arith, c.loop-k-test.true, c.min-count.ensures) in
    let old = c.loop-k.self in
    let logged : IsLogged old.store c.write.new.self (get_or slots k _) (get_or values k _) = record { store = c.in_ok-write.ensures.store; undo = c.in_ok-write.ensures.undo; shape = c.in_ok-write.ensures.shape } in (
      c.in_ok-write.ensures.shape ∙ c.loop-k.invariant.0,
      λ f m. wrote-next f m c.args.self.now old (record old { store = c.write.new.self }) slots values k _ _ in_slots in_values (c.loop-k.invariant.1 f m)
          (does-write f m old c.write.new.self (record { slot = get_or slots k _; value = get_or values k _ }) logged
          (c.logged_writes_are_reversible.ensures.write old.store c.write.new.self (get_or slots k _) (get_or values k _) logged)),
    )

pub returns : goal.returns
returns c =
    let last : min (length c.args.slots.now) (length c.args.values.now) ≤ c.loop-k.k = omega (arith, c.loop-k-test.false, c.min-count.ensures) in
    λ f m. wrote-last f m c.args.self.now c.loop-k.self c.args.slots.now c.args.values.now c.loop-k.k last (c.loop-k.invariant.1 f m)
