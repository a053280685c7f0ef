-- Before the superstep is done nobody is told of it; then all are, in their order.
use Rattle.std.proofs.Common.{refl}
use Rattle.gm_image.specs.Views.{program}
use Rattle.gm_machine.specs.Machine.{superstep}
use Rattle.gm_observe.specs.Audience.{to_all}
use Rattle.gm_observe.proofs.Telling.{up_to-start}
use Rattle.gm_machine.proofs.RunSteps.{part-some}
use Rattle.gm_workers.proofs.RunLemmas.{note-is, part-on-err, told-note}
use Rattle.gm_workers.proofs.runs.step_and_tell.Goals as goal

pub returns-clause-told : goal.returns-clause-told
returns-clause-told g c =
    λ d at.
    told-note _ _ _ _ c.in_ok-tell_all.ensures.told
    (note-is c.args.graph.now c.args.block c.step.new.progress c.step.new.globals.items c.in_ok-end.end.messages c.in_ok-end.end.fault (superstep (program c.args.image.now) c.args.graph.now c.args.block c.args.globals.now.items d)
    c.node_count.result (c.in_ok-end.ensures.step d at) c.node_count.ensures.count)

pub returns-in_err-end-clause-part : goal.returns-in_err-end-clause-part
returns-in_err-end-clause-part g c =
    part-on-err _ (program c.args.image.now) c.args.graph.now c.args.block c.args.globals.now.items c.args.progress.now _ _ (λ d at. to_all _ (up_to-start _ _ _ refl))

pub returns-in_err-tell_all-clause-part : goal.returns-in_err-tell_all-clause-part
returns-in_err-tell_all-clause-part g c =
    part-on-err _ (program c.args.image.now) c.args.graph.now c.args.block c.args.globals.now.items c.args.progress.now _ _
    (λ d at.
    part-some _ _ _ _
    (note-is c.args.graph.now c.args.block c.step.new.progress c.step.new.globals.items c.in_ok-end.end.messages c.in_ok-end.end.fault (superstep (program c.args.image.now) c.args.graph.now c.args.block c.args.globals.now.items d)
    c.node_count.result (c.in_ok-end.ensures.step d at) c.node_count.ensures.count)
    c.in_err-tell_all.ensures.part)
