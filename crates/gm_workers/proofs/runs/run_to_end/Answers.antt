-- From superstep to superstep.
use Rattle.std.proofs.Common.{◌≡◌, ◌-◌, ◌∙◌, [], refl, ap, arith, subst, sym}
use Rattle.gm_model.specs.Graphs.{node_count}
use Rattle.gm_image.specs.declared.images.Image.{Image}
use Rattle.gm_image.specs.Views.{program}
use Rattle.gm_machine.specs.Asking.{IsServed}
use Rattle.gm_machine.specs.Machine.{Ended, Faulted, Cut, pause, start_control}
use Rattle.gm_machine.specs.Masters.{FitsGraph, control_of}
use Rattle.gm_observe.specs.Audience.{to_all}
use Rattle.gm_observe.proofs.Telling.{up_to-start}
use Rattle.gm_machine.proofs.RunSteps.{part-on_err, told-all}
use Rattle.gm_workers.specs.declared.runs.Progress.{Progress}
use Rattle.gm_workers.proofs.RunLemmas.{recount, on-starts, goes, faults-end, faults-told, stops-end, stops-told, breaks}
use Rattle.gm_workers.proofs.runs.run_to_end.Goals as goal

pub steps-init : goal.steps-init
steps-init g c =
    let r : Progress = record { crew = c.in_ok-crew.crew; supersteps = 0; messages = 0 } in
    let none : c.in_ok-master.master.turns ≡ 0 = ap (λ d. d.turns) c.in_ok-master.ensures.control in
    let left : c.in_ok-master.master.bound - c.in_ok-master.master.turns ≡ c.args.turns = omega (arith, none, c.in_ok-master.ensures.bound) in
    record {
      bounded = omega (arith, none);
      crew = recount (node_count c.args.graph.now) c.args.workers c.in_ok-crew.crew.dealing c.in_ok-crew.crew.slots.items c.in_ok-crew.ensures.crew;
      on =
          on-starts (program c.args.image.now) c.args.graph.now c.args.args.now c.args.turns r (c.in_ok-master.master.bound - c.in_ok-master.master.turns) c.in_ok-master.master.line (control_of c.in_ok-master.master) _ left c.in_ok-master.ensures.line
          (c.in_ok-master.ensures.control ∙ ap (λ (i : Image). start_control (program i) c.args.args.now) c.image-plain.ensures.same) c.in_ok-crew.ensures.stands refl refl;
      same_ways = refl;
    }

pub steps-preserved : goal.steps-preserved
steps-preserved g c = record {
  bounded = c.in-Step.ensures.bounded;
  crew = c.in_ok-done-in-Step.ensures.crew;
  on =
      goes (program c.args.image.now) c.args.graph.now c.args.args.now c.args.turns c.steps.progress (c.steps.master.bound - c.steps.master.turns) c.steps.master.line (control_of c.steps.master) _ _ c.steps.invariant.on
      (c.master_run.new.master.bound - c.master_run.new.master.turns) c.in-Step.block c.master_run.new.master.line (control_of c.master_run.new.master)
      (c.in-Step.ensures.run ∙ ap (λ (i : Image). pause (program i) c.args.graph.now (c.steps.master.bound - c.steps.master.turns) c.steps.master.line (control_of c.steps.master)) c.image-plain.ensures.same)
      c.step_and_tell.new.progress c.step_and_tell.new.globals.items c.in_ok-done-in-Step.done.messages c.in_ok-done-in-Step.done.fault _
      c.in_ok-done-in-Step.ensures.step c.in_ok-done-in-Step.ensures.told c.in_default.is;
  same_ways = c.in_ok-done-in-Step.ensures.same_ways ∙ c.steps.invariant.same_ways;
}

pub master_run-requires-clause-columns : goal.master_run-requires-clause-columns
master_run-requires-clause-columns g c = subst (λ (i : Image). FitsGraph i c.args.graph.now) (sym c.image-plain.ensures.same) c.requires.columns

pub master_run-requires-clause-served : goal.master_run-requires-clause-served
master_run-requires-clause-served g c = subst (λ (i : Image). IsServed (program i) c.args.graph.now c.args.in_rows.now) (sym c.image-plain.ensures.same) c.requires.served

pub returns-in_err-master-clause-part : goal.returns-in_err-master-clause-part
returns-in_err-master-clause-part g c = part-on_err _ _ _ _ (to_all _ (up_to-start _ _ _ refl))

pub returns-in_err-crew-clause-part : goal.returns-in_err-crew-clause-part
returns-in_err-crew-clause-part g c = part-on_err _ _ _ _ (to_all _ (up_to-start _ _ _ refl))

pub returns-in_err-done-in-Step-clause-part : goal.returns-in_err-done-in-Step-clause-part
returns-in_err-done-in-Step-clause-part g c =
    part-on_err _ _ _ _
    (breaks (program c.args.image.now) c.args.graph.now c.args.args.now c.args.turns c.steps.progress (c.steps.master.bound - c.steps.master.turns) c.steps.master.line (control_of c.steps.master) _ _ c.steps.invariant.on
    (c.master_run.new.master.bound - c.master_run.new.master.turns) c.in-Step.block c.master_run.new.master.line (control_of c.master_run.new.master)
    (c.in-Step.ensures.run ∙ ap (λ (i : Image). pause (program i) c.args.graph.now (c.steps.master.bound - c.steps.master.turns) c.steps.master.line (control_of c.steps.master)) c.image-plain.ensures.same) _ c.in_err-done-in-Step.ensures.part)

pub returns-in_err-end-in-Step-clause-part : goal.returns-in_err-end-in-Step-clause-part
returns-in_err-end-in-Step-clause-part g c =
    part-on_err _ _ _ _
    (to_all []
    (faults-told (program c.args.image.now) c.args.graph.now c.args.args.now c.args.turns c.steps.progress (c.steps.master.bound - c.steps.master.turns) c.steps.master.line (control_of c.steps.master) _ _ c.steps.invariant.on
    (c.master_run.new.master.bound - c.master_run.new.master.turns) c.in-Step.block c.master_run.new.master.line (control_of c.master_run.new.master)
    (c.in-Step.ensures.run ∙ ap (λ (i : Image). pause (program i) c.args.graph.now (c.steps.master.bound - c.steps.master.turns) c.steps.master.line (control_of c.steps.master)) c.image-plain.ensures.same)
    c.step_and_tell.new.progress c.step_and_tell.new.globals.items c.in_ok-done-in-Step.done.messages c.in_ok-done-in-Step.done.fault _
    c.in_ok-done-in-Step.ensures.step c.in_ok-done-in-Step.ensures.told c.in-Some.fault c.in-Some.is))

pub returns-in-Some-clause-end : goal.returns-in-Some-clause-end
returns-in-Some-clause-end g c =
    faults-end (program c.args.image.now) c.args.graph.now c.args.args.now c.args.turns c.steps.progress (c.steps.master.bound - c.steps.master.turns) c.steps.master.line (control_of c.steps.master) _ _ c.steps.invariant.on
    (c.master_run.new.master.bound - c.master_run.new.master.turns) c.in-Step.block c.master_run.new.master.line (control_of c.master_run.new.master)
    (c.in-Step.ensures.run ∙ ap (λ (i : Image). pause (program i) c.args.graph.now (c.steps.master.bound - c.steps.master.turns) c.steps.master.line (control_of c.steps.master)) c.image-plain.ensures.same)
    c.step_and_tell.new.progress c.step_and_tell.new.globals.items c.in_ok-done-in-Step.done.messages c.in_ok-done-in-Step.done.fault _
    c.in_ok-done-in-Step.ensures.step c.in_ok-done-in-Step.ensures.told c.in-Some.fault c.in_ok-end-in-Step.end c.in-Some.is c.in_ok-end-in-Step.ensures

pub returns-in-Some-clause-told : goal.returns-in-Some-clause-told
returns-in-Some-clause-told g c =
    told-all _ _ _
    (faults-told (program c.args.image.now) c.args.graph.now c.args.args.now c.args.turns c.steps.progress (c.steps.master.bound - c.steps.master.turns) c.steps.master.line (control_of c.steps.master) _ _ c.steps.invariant.on
    (c.master_run.new.master.bound - c.master_run.new.master.turns) c.in-Step.block c.master_run.new.master.line (control_of c.master_run.new.master)
    (c.in-Step.ensures.run ∙ ap (λ (i : Image). pause (program i) c.args.graph.now (c.steps.master.bound - c.steps.master.turns) c.steps.master.line (control_of c.steps.master)) c.image-plain.ensures.same)
    c.step_and_tell.new.progress c.step_and_tell.new.globals.items c.in_ok-done-in-Step.done.messages c.in_ok-done-in-Step.done.fault _
    c.in_ok-done-in-Step.ensures.step c.in_ok-done-in-Step.ensures.told c.in-Some.fault c.in-Some.is)

pub returns-in-Ended-clause-end : goal.returns-in-Ended-clause-end
returns-in-Ended-clause-end g c =
    stops-end (program c.args.image.now) c.args.graph.now c.args.args.now c.args.turns c.steps.progress (c.steps.master.bound - c.steps.master.turns) c.steps.master.line (control_of c.steps.master) _ _ c.steps.invariant.on
    (Ended (control_of c.master_run.new.master)) c.in_ok-end-in-Ended.end
    (c.in-Ended.ensures.run ∙ ap (λ (i : Image). pause (program i) c.args.graph.now (c.steps.master.bound - c.steps.master.turns) c.steps.master.line (control_of c.steps.master)) c.image-plain.ensures.same) c.in_ok-end-in-Ended.ensures

pub returns-in-Ended-clause-told : goal.returns-in-Ended-clause-told
returns-in-Ended-clause-told g c =
    told-all _ _ _
    (stops-told (program c.args.image.now) c.args.graph.now c.args.args.now c.args.turns c.steps.progress (c.steps.master.bound - c.steps.master.turns) c.steps.master.line (control_of c.steps.master) _ _ c.steps.invariant.on
    (Ended (control_of c.master_run.new.master))
    (c.in-Ended.ensures.run ∙ ap (λ (i : Image). pause (program i) c.args.graph.now (c.steps.master.bound - c.steps.master.turns) c.steps.master.line (control_of c.steps.master)) c.image-plain.ensures.same))

pub returns-in_err-end-in-Ended-clause-part : goal.returns-in_err-end-in-Ended-clause-part
returns-in_err-end-in-Ended-clause-part g c =
    part-on_err _ _ _ _
    (to_all []
    (stops-told (program c.args.image.now) c.args.graph.now c.args.args.now c.args.turns c.steps.progress (c.steps.master.bound - c.steps.master.turns) c.steps.master.line (control_of c.steps.master) _ _ c.steps.invariant.on
    (Ended (control_of c.master_run.new.master))
    (c.in-Ended.ensures.run ∙ ap (λ (i : Image). pause (program i) c.args.graph.now (c.steps.master.bound - c.steps.master.turns) c.steps.master.line (control_of c.steps.master)) c.image-plain.ensures.same)))

pub returns-in-Faulted-clause-end : goal.returns-in-Faulted-clause-end
returns-in-Faulted-clause-end g c =
    stops-end (program c.args.image.now) c.args.graph.now c.args.args.now c.args.turns c.steps.progress (c.steps.master.bound - c.steps.master.turns) c.steps.master.line (control_of c.steps.master) _ _ c.steps.invariant.on
    (Faulted c.in-Faulted.fault (control_of c.master_run.new.master)) c.in_ok-end-in-Faulted.end
    (c.in-Faulted.ensures.run ∙ ap (λ (i : Image). pause (program i) c.args.graph.now (c.steps.master.bound - c.steps.master.turns) c.steps.master.line (control_of c.steps.master)) c.image-plain.ensures.same) c.in_ok-end-in-Faulted.ensures

pub returns-in-Faulted-clause-told : goal.returns-in-Faulted-clause-told
returns-in-Faulted-clause-told g c =
    told-all _ _ _
    (stops-told (program c.args.image.now) c.args.graph.now c.args.args.now c.args.turns c.steps.progress (c.steps.master.bound - c.steps.master.turns) c.steps.master.line (control_of c.steps.master) _ _ c.steps.invariant.on
    (Faulted c.in-Faulted.fault (control_of c.master_run.new.master))
    (c.in-Faulted.ensures.run ∙ ap (λ (i : Image). pause (program i) c.args.graph.now (c.steps.master.bound - c.steps.master.turns) c.steps.master.line (control_of c.steps.master)) c.image-plain.ensures.same))

pub returns-in_err-end-in-Faulted-clause-part : goal.returns-in_err-end-in-Faulted-clause-part
returns-in_err-end-in-Faulted-clause-part g c =
    part-on_err _ _ _ _
    (to_all []
    (stops-told (program c.args.image.now) c.args.graph.now c.args.args.now c.args.turns c.steps.progress (c.steps.master.bound - c.steps.master.turns) c.steps.master.line (control_of c.steps.master) _ _ c.steps.invariant.on
    (Faulted c.in-Faulted.fault (control_of c.master_run.new.master))
    (c.in-Faulted.ensures.run ∙ ap (λ (i : Image). pause (program i) c.args.graph.now (c.steps.master.bound - c.steps.master.turns) c.steps.master.line (control_of c.steps.master)) c.image-plain.ensures.same)))

pub returns-in-Cut-clause-end : goal.returns-in-Cut-clause-end
returns-in-Cut-clause-end g c =
    stops-end (program c.args.image.now) c.args.graph.now c.args.args.now c.args.turns c.steps.progress (c.steps.master.bound - c.steps.master.turns) c.steps.master.line (control_of c.steps.master) _ _ c.steps.invariant.on
    (Cut (control_of c.master_run.new.master)) c.in_ok-end-in-Cut.end
    (c.in-Cut.ensures.run ∙ ap (λ (i : Image). pause (program i) c.args.graph.now (c.steps.master.bound - c.steps.master.turns) c.steps.master.line (control_of c.steps.master)) c.image-plain.ensures.same) c.in_ok-end-in-Cut.ensures

pub returns-in-Cut-clause-told : goal.returns-in-Cut-clause-told
returns-in-Cut-clause-told g c =
    told-all _ _ _
    (stops-told (program c.args.image.now) c.args.graph.now c.args.args.now c.args.turns c.steps.progress (c.steps.master.bound - c.steps.master.turns) c.steps.master.line (control_of c.steps.master) _ _ c.steps.invariant.on
    (Cut (control_of c.master_run.new.master))
    (c.in-Cut.ensures.run ∙ ap (λ (i : Image). pause (program i) c.args.graph.now (c.steps.master.bound - c.steps.master.turns) c.steps.master.line (control_of c.steps.master)) c.image-plain.ensures.same))

pub returns-in_err-end-in-Cut-clause-part : goal.returns-in_err-end-in-Cut-clause-part
returns-in_err-end-in-Cut-clause-part g c =
    part-on_err _ _ _ _
    (to_all []
    (stops-told (program c.args.image.now) c.args.graph.now c.args.args.now c.args.turns c.steps.progress (c.steps.master.bound - c.steps.master.turns) c.steps.master.line (control_of c.steps.master) _ _ c.steps.invariant.on
    (Cut (control_of c.master_run.new.master))
    (c.in-Cut.ensures.run ∙ ap (λ (i : Image). pause (program i) c.args.graph.now (c.steps.master.bound - c.steps.master.turns) c.steps.master.line (control_of c.steps.master)) c.image-plain.ensures.same)))
