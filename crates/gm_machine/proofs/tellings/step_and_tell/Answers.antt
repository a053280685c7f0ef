-- Before the superstep is done nobody is told of it; then all are, in their order.
use Rattle.std.proofs.Common.{◌∙◌, refl, ap}
use Rattle.gm_machine.specs.Notes.{note_of}
use Rattle.gm_observe.specs.Audience.{to_all}
use Rattle.gm_observe.proofs.Telling.{up_to-start}
use Rattle.gm_machine.proofs.RunSteps.{part-on_err, part-some}
use Rattle.gm_machine.proofs.tellings.step_and_tell.Goals as goal

pub returns-in_err-fault-clause-part : goal.returns-in_err-fault-clause-part
returns-in_err-fault-clause-part g c =
    part-on_err _ _ _ _
    (to_all _ (up_to-start _ _ _ refl))

pub returns-in_err-tell_all-clause-part : goal.returns-in_err-tell_all-clause-part
returns-in_err-tell_all-clause-part g c =
    part-on_err _ _ _ _
    (part-some _ c.note_of.result _ _ (c.note_of.ensures ∙ ap (λ t. note_of c.args.graph.now c.args.block t.nodes) c.in_ok-fault.ensures.superstep) c.in_err-tell_all.ensures.part)
