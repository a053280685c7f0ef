-- From superstep to superstep.
use Rattle.std.proofs.Common.{◌≡◌, ◌-◌, ◌∙◌, [], refl, ap, arith}
use Rattle.gm_model.specs.Graphs.{NumberedGraph}
use Rattle.gm_image.specs.Program.{Program}
use Rattle.gm_image.specs.Views.{program}
use Rattle.gm_machine.specs.Machine.{Control, Nodes, Ended, Faulted, Cut, ends, run_step}
use Rattle.gm_machine.specs.Masters.{control_of}
use Rattle.gm_machine.specs.Notes.{noted, noted_step}
use Rattle.gm_machine.specs.Supersteps.{nodes_of}
use Rattle.gm_observe.specs.Audience.{to_all}
use Rattle.gm_observe.proofs.Telling.{up_to-start}
use Rattle.gm_machine.proofs.RunSteps.{part-on_err, rest-starts, rest-stops, end-goes, end-faults, told-goes, told-faults, told-stops, told-breaks, told-all}
use Rattle.gm_machine.proofs.runs.run.Goals as goal

pub steps-init : goal.steps-init
steps-init g c =
    let p : Program = program c.args.image.now in
    let g' : NumberedGraph = c.args.graph.now in
    let from : Control = control_of c.in_ok-master.master in
    let s : Nodes = nodes_of c.in_ok-nodes.nodes in
    let none : c.in_ok-master.master.turns ≡ 0 = ap (λ d. d.turns) c.in_ok-master.ensures.control in
    let left : c.in_ok-master.master.bound - c.in_ok-master.master.turns ≡ c.args.turns = omega (arith, none, c.in_ok-master.ensures.bound) in
    record {
      bounded = omega (arith, none);
      nodes = c.in_ok-nodes.ensures.nodes;
      full = c.in_ok-nodes.ensures.full;
      end = rest-starts p g' (ends p) (run_step p g') c.args.args.now c.args.turns (c.in_ok-master.master.bound - c.in_ok-master.master.turns) c.in_ok-master.master.line from s left c.in_ok-master.ensures.line c.in_ok-master.ensures.control c.in_ok-nodes.ensures.start;
      told =
          up_to-start (noted p g' c.args.args.now c.args.turns) _ _
          (rest-starts p g' (λ stop t. []) (noted_step p g') c.args.args.now c.args.turns (c.in_ok-master.master.bound - c.in_ok-master.master.turns) c.in_ok-master.master.line from s left c.in_ok-master.ensures.line c.in_ok-master.ensures.control c.in_ok-nodes.ensures.start);
      same_ways = refl;
    }

pub steps-preserved : goal.steps-preserved
steps-preserved g c = record {
  bounded = c.in-Step.ensures.bounded;
  nodes = c.in_ok-fault-in-Step.ensures.nodes ∙ c.steps.invariant.nodes;
  full = record { wide = refl; full = c.in_ok-fault-in-Step.ensures.full.full };
  end =
      end-goes (program c.args.image.now) c.args.graph.now (c.steps.master.bound - c.steps.master.turns) c.steps.master.line (control_of c.steps.master) (nodes_of c.steps.nodes)
      (c.master_run.new.master.bound - c.master_run.new.master.turns) c.in-Step.block c.master_run.new.master.line (control_of c.master_run.new.master) (nodes_of c.step_and_tell.new.nodes) c.step_and_tell.new.globals.items c.in_ok-fault-in-Step.fault c.in-Step.ensures.run c.in_ok-fault-in-Step.ensures.superstep c.in_default.is
      ∙ c.steps.invariant.end;
  told =
      told-goes (program c.args.image.now) c.args.graph.now (c.steps.master.bound - c.steps.master.turns) c.steps.master.line (control_of c.steps.master) (nodes_of c.steps.nodes)
      (c.master_run.new.master.bound - c.master_run.new.master.turns) c.in-Step.block c.master_run.new.master.line (control_of c.master_run.new.master) (nodes_of c.step_and_tell.new.nodes) c.step_and_tell.new.globals.items c.in_ok-fault-in-Step.fault _ _ _ _
      c.in-Step.ensures.run c.in_ok-fault-in-Step.ensures.superstep c.in_default.is c.steps.invariant.told c.in_ok-fault-in-Step.ensures.told;
  same_ways = c.in_ok-fault-in-Step.ensures.same_ways ∙ c.steps.invariant.same_ways;
}

pub returns-in-Some-clause-end : goal.returns-in-Some-clause-end
returns-in-Some-clause-end g c =
    c.in_ok-end-in-Step.ensures
    ∙ end-faults (program c.args.image.now) c.args.graph.now (c.steps.master.bound - c.steps.master.turns) c.steps.master.line (control_of c.steps.master) (nodes_of c.steps.nodes)
    (c.master_run.new.master.bound - c.master_run.new.master.turns) c.in-Step.block c.master_run.new.master.line (control_of c.master_run.new.master) (nodes_of c.step_and_tell.new.nodes) c.step_and_tell.new.globals.items c.in_ok-fault-in-Step.fault c.in-Some.fault c.in-Step.ensures.run c.in_ok-fault-in-Step.ensures.superstep c.in-Some.is
    ∙ c.steps.invariant.end

pub returns-in-Ended-clause-end : goal.returns-in-Ended-clause-end
returns-in-Ended-clause-end g c =
    c.in_ok-end-in-Ended.ensures
    ∙ rest-stops (program c.args.image.now) c.args.graph.now (ends (program c.args.image.now)) (run_step (program c.args.image.now) c.args.graph.now) (c.steps.master.bound - c.steps.master.turns) c.steps.master.line (control_of c.steps.master) (nodes_of c.steps.nodes)
    (Ended (control_of c.master_run.new.master)) c.in-Ended.ensures.run
    ∙ c.steps.invariant.end

pub returns-in-Faulted-clause-end : goal.returns-in-Faulted-clause-end
returns-in-Faulted-clause-end g c =
    c.in_ok-end-in-Faulted.ensures
    ∙ rest-stops (program c.args.image.now) c.args.graph.now (ends (program c.args.image.now)) (run_step (program c.args.image.now) c.args.graph.now) (c.steps.master.bound - c.steps.master.turns) c.steps.master.line (control_of c.steps.master) (nodes_of c.steps.nodes)
    (Faulted c.in-Faulted.fault (control_of c.master_run.new.master)) c.in-Faulted.ensures.run
    ∙ c.steps.invariant.end

pub returns-in-Cut-clause-end : goal.returns-in-Cut-clause-end
returns-in-Cut-clause-end g c =
    c.in_ok-end-in-Cut.ensures
    ∙ rest-stops (program c.args.image.now) c.args.graph.now (ends (program c.args.image.now)) (run_step (program c.args.image.now) c.args.graph.now) (c.steps.master.bound - c.steps.master.turns) c.steps.master.line (control_of c.steps.master) (nodes_of c.steps.nodes)
    (Cut (control_of c.master_run.new.master)) c.in-Cut.ensures.run
    ∙ c.steps.invariant.end

pub returns-in_err-master-clause-part : goal.returns-in_err-master-clause-part
returns-in_err-master-clause-part g c =
    part-on_err _ _ _ _
    (to_all _ (up_to-start _ _ _ refl))

pub returns-in_err-nodes-clause-part : goal.returns-in_err-nodes-clause-part
returns-in_err-nodes-clause-part g c =
    part-on_err _ _ _ _
    (to_all _ (up_to-start _ _ _ refl))

pub returns-in_err-fault-in-Step-clause-part : goal.returns-in_err-fault-in-Step-clause-part
returns-in_err-fault-in-Step-clause-part g c =
    part-on_err _ _ _ _
    (told-breaks (program c.args.image.now) c.args.graph.now (c.steps.master.bound - c.steps.master.turns) c.steps.master.line (control_of c.steps.master) (nodes_of c.steps.nodes)
    (c.master_run.new.master.bound - c.master_run.new.master.turns) c.in-Step.block c.master_run.new.master.line (control_of c.master_run.new.master) _ _ _ _
    c.in-Step.ensures.run c.steps.invariant.told c.in_err-fault-in-Step.ensures.part)

pub returns-in_err-end-in-Step-clause-part : goal.returns-in_err-end-in-Step-clause-part
returns-in_err-end-in-Step-clause-part g c =
    part-on_err _ _ _ _
    (to_all []
    (told-faults (program c.args.image.now) c.args.graph.now (c.steps.master.bound - c.steps.master.turns) c.steps.master.line (control_of c.steps.master) (nodes_of c.steps.nodes)
    (c.master_run.new.master.bound - c.master_run.new.master.turns) c.in-Step.block c.master_run.new.master.line (control_of c.master_run.new.master) (nodes_of c.step_and_tell.new.nodes) c.step_and_tell.new.globals.items c.in_ok-fault-in-Step.fault c.in-Some.fault _ _ _ _
    c.in-Step.ensures.run c.in_ok-fault-in-Step.ensures.superstep c.in-Some.is c.steps.invariant.told c.in_ok-fault-in-Step.ensures.told))

pub returns-in-Some-clause-told : goal.returns-in-Some-clause-told
returns-in-Some-clause-told g c =
    told-all _ _ _
    (told-faults (program c.args.image.now) c.args.graph.now (c.steps.master.bound - c.steps.master.turns) c.steps.master.line (control_of c.steps.master) (nodes_of c.steps.nodes)
    (c.master_run.new.master.bound - c.master_run.new.master.turns) c.in-Step.block c.master_run.new.master.line (control_of c.master_run.new.master) (nodes_of c.step_and_tell.new.nodes) c.step_and_tell.new.globals.items c.in_ok-fault-in-Step.fault c.in-Some.fault _ _ _ _
    c.in-Step.ensures.run c.in_ok-fault-in-Step.ensures.superstep c.in-Some.is c.steps.invariant.told c.in_ok-fault-in-Step.ensures.told)

pub returns-in_err-end-in-Ended-clause-part : goal.returns-in_err-end-in-Ended-clause-part
returns-in_err-end-in-Ended-clause-part g c =
    part-on_err _ _ _ _
    (to_all [] (told-stops (program c.args.image.now) c.args.graph.now (c.steps.master.bound - c.steps.master.turns) c.steps.master.line (control_of c.steps.master) (nodes_of c.steps.nodes)
    (Ended (control_of c.master_run.new.master)) _ _ _ c.in-Ended.ensures.run c.steps.invariant.told))

pub returns-in-Ended-clause-told : goal.returns-in-Ended-clause-told
returns-in-Ended-clause-told g c = told-all _ _ _ (told-stops (program c.args.image.now) c.args.graph.now (c.steps.master.bound - c.steps.master.turns) c.steps.master.line (control_of c.steps.master) (nodes_of c.steps.nodes)
    (Ended (control_of c.master_run.new.master)) _ _ _ c.in-Ended.ensures.run c.steps.invariant.told)

pub returns-in_err-end-in-Faulted-clause-part : goal.returns-in_err-end-in-Faulted-clause-part
returns-in_err-end-in-Faulted-clause-part g c =
    part-on_err _ _ _ _
    (to_all [] (told-stops (program c.args.image.now) c.args.graph.now (c.steps.master.bound - c.steps.master.turns) c.steps.master.line (control_of c.steps.master) (nodes_of c.steps.nodes)
    (Faulted c.in-Faulted.fault (control_of c.master_run.new.master)) _ _ _ c.in-Faulted.ensures.run c.steps.invariant.told))

pub returns-in-Faulted-clause-told : goal.returns-in-Faulted-clause-told
returns-in-Faulted-clause-told g c = told-all _ _ _ (told-stops (program c.args.image.now) c.args.graph.now (c.steps.master.bound - c.steps.master.turns) c.steps.master.line (control_of c.steps.master) (nodes_of c.steps.nodes)
    (Faulted c.in-Faulted.fault (control_of c.master_run.new.master)) _ _ _ c.in-Faulted.ensures.run c.steps.invariant.told)

pub returns-in_err-end-in-Cut-clause-part : goal.returns-in_err-end-in-Cut-clause-part
returns-in_err-end-in-Cut-clause-part g c =
    part-on_err _ _ _ _
    (to_all [] (told-stops (program c.args.image.now) c.args.graph.now (c.steps.master.bound - c.steps.master.turns) c.steps.master.line (control_of c.steps.master) (nodes_of c.steps.nodes)
    (Cut (control_of c.master_run.new.master)) _ _ _ c.in-Cut.ensures.run c.steps.invariant.told))

pub returns-in-Cut-clause-told : goal.returns-in-Cut-clause-told
returns-in-Cut-clause-told g c = told-all _ _ _ (told-stops (program c.args.image.now) c.args.graph.now (c.steps.master.bound - c.steps.master.turns) c.steps.master.line (control_of c.steps.master) (nodes_of c.steps.nodes)
    (Cut (control_of c.master_run.new.master)) _ _ _ c.in-Cut.ensures.run c.steps.invariant.told)
