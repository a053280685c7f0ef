use Rattle.std.proofs.Common.{◌≡◌, List, Ok, Result, sym, subst}
use Rattle.std.specs.Prelude.{All, IfOk}
use Rattle.gm_value.specs.declared.values.Value.{Value}
use Rattle.gm_semantics.specs.declared.faults.Fault.{Fault}
use Rattle.gm_semantics.specs.Iterations.{AtEdge, with_ok, gave_inner, contribution}
use Rattle.gm_store.specs.Held.{HasSlot, shape_of}
use Rattle.gm_totals.specs.Given.{given}
use Rattle.gm_loops.specs.declared.tuples.Tuple.{Tuple}
use Rattle.gm_loops.specs.Goings.{Does}
use Rattle.gm_loops.specs.Targets.{tuple_of}
use Rattle.gm_loops.proofs.Effects.{does-give_inner}
use Rattle.gm_loops.proofs.goings.Going.add_inner_all.Goals as goal

pub returns-in_ok-give_tuple-in-Ok : goal.returns-in_ok-give_tuple-in-Ok
returns-in_ok-give_tuple-in-Ok c = λ f edge.
    let old = c.args.self.now in
    let t = c.in-Ok.tuple in
    let slots : All (HasSlot (shape_of old.store)) t.slots.items = subst (λ (a : Result Tuple Fault). IfOk a (λ u. All (HasSlot (shape_of old.store)) u.slots.items)) c.in-Ok.is c.requires in
    subst (λ (a : Result Tuple Fault). Does f (AtEdge edge) old (record old { inner = c.give_tuple.new.self }) (λ it. with_ok it (tuple_of a) (λ p. gave_inner it (contribution c.args.total c.args.reduce p)))) (sym c.in-Ok.is)
    (subst (λ (vs : List Value). Does f (AtEdge edge) old (record old { inner = c.give_tuple.new.self }) (λ it. gave_inner it (given c.args.total c.args.reduce t.slots.items vs))) c.as_slice.ensures.value
    (does-give_inner f edge old c.give_tuple.new.self (given c.args.total c.args.reduce t.slots.items c.as_slice.result.now) slots c.in_ok-give_tuple-in-Ok.ensures.stands c.in_ok-give_tuple-in-Ok.ensures.within))

pub returns-in-Err : goal.returns-in-Err
returns-in-Err c = λ f edge.
    subst (λ (a : Result Tuple Fault). Does f (AtEdge edge) c.args.self.now c.fail.new.self (λ it. with_ok it (tuple_of a) (λ p. gave_inner it (contribution c.args.total c.args.reduce p)))) (sym c.in-Err.is) (c.fail.ensures f (AtEdge edge))
