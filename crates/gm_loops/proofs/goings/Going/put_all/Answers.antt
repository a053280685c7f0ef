use Rattle.std.proofs.Common.{List, Result, sym, subst}
use Rattle.gm_value.specs.declared.values.Value.{Value}
use Rattle.gm_semantics.specs.declared.slots.Slot.{Slot}
use Rattle.gm_semantics.specs.declared.faults.Fault.{Fault}
use Rattle.gm_semantics.specs.Iterations.{wrote_all, with_ok}
use Rattle.gm_loops.specs.declared.tuples.Tuple.{Tuple}
use Rattle.gm_loops.specs.Goings.{Does}
use Rattle.gm_loops.specs.Targets.{tuple_of}
use Rattle.gm_loops.proofs.goings.Going.put_all.Goals as goal

pub returns-in_ok-write_tuple-in-Ok : goal.returns-in_ok-write_tuple-in-Ok
returns-in_ok-write_tuple-in-Ok c = λ f m.
    let old = c.args.self.now in
    let new = c.write_tuple.new.self in
    let t = c.in-Ok.tuple in
    subst (λ (a : Result Tuple Fault). Does f m old new (λ it. with_ok it (tuple_of a) (wrote_all it))) (sym c.in-Ok.is)
    (subst (λ (vs : List Value). Does f m old new (λ it. wrote_all it (t.slots.items, vs))) c.as_slice-in-Ok.ensures.value
    (subst (λ (ss : List Slot). Does f m old new (λ it. wrote_all it (ss, c.as_slice-in-Ok.result.now))) c.as_slice.ensures.value
    (c.in_ok-write_tuple-in-Ok.ensures f m)))

pub returns-in-Err : goal.returns-in-Err
returns-in-Err c = λ f m.
    subst (λ (a : Result Tuple Fault). Does f m c.args.self.now c.fail.new.self (λ it. with_ok it (tuple_of a) (wrote_all it))) (sym c.in-Err.is) (c.fail.ensures f m)
