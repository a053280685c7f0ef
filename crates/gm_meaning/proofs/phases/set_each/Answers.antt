use Rattle.std.proofs.Common.{◌<◌, ◌∙◌, arith, length}
use Rattle.gm_store.specs.Held.{store_of}
use Rattle.gm_meaning.proofs.Tuples.{write-end, write-next}
use Rattle.gm_meaning.proofs.phases.set_each.Goals as goal

pub loop-k-preserved : goal.loop-k-preserved
loop-k-preserved c =
    let slot : c.loop-k.k < length c.args.slots.now = omega (arith, c.loop-k-test.true, c.min-count.ensures) in
    let value : c.loop-k.k < length c.args.values.now = omega (arith, c.loop-k-test.true, c.min-count.ensures) in
    record {
      store = λ edge.
          write-next (store_of edge c.args.store.now) (store_of edge c.loop-k.store) (store_of edge c.set.new.self) c.args.slots.now c.args.values.now c.loop-k.k _ _ slot value
          (c.loop-k.invariant.store edge) (c.in_ok-set.ensures.store edge);
      undo = c.in_ok-set.ensures.undo ∙ c.loop-k.invariant.undo;
      shape = c.in_ok-set.ensures.shape ∙ c.loop-k.invariant.shape;
    }

pub returns-clause-store : goal.returns-clause-store
returns-clause-store c = λ edge.
    c.loop-k.invariant.store edge ∙ write-end (store_of edge c.args.store.now) c.args.slots.now c.args.values.now c.loop-k.k (omega (arith, c.loop-k-test.false, c.min-count.ensures))
