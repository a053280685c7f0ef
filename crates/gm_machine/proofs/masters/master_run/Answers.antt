-- Each segment goes on as the whole run does.
use Rattle.std.proofs.Common.{◌≡◌, ◌≤◌, ◌-◌, ◌+◌, length, sym, ◌∙◌, arith}
use Rattle.std.proofs.lemmas.List.{length-map}
use Rattle.gm_image.specs.Views.{program, command}
use Rattle.gm_machine.specs.Masters.{control, control_of, left_of}
use Rattle.gm_machine.proofs.MasterLemmas.{pause_first, turn_first, left-turn, segment-ahead, nearer-step}
use Rattle.gm_machine.proofs.masters.master_run.Goals as goal

pub returns-in-Step-clause-run : goal.returns-in-Step-clause-run
returns-in-Step-clause-run c =
    sym (pause_first (program c.args.image.now) c.args.graph.now (c.turns.master.bound - c.turns.master.turns) c.turns.master.line (control_of c.turns.master) _ (c.in-Step.ensures c.turns.master.turns)) ∙ c.turns.invariant.run

pub returns-in-Step-clause-nearer : goal.returns-in-Step-clause-nearer
returns-in-Step-clause-nearer c =
    let master = c.args.image.now.master in
    let ahead = segment-ahead (program c.args.image.now) c.args.graph.now c.turns.master.line c.in-Step.q c.in-Step.line (control_of c.turns.master) (control c.run_segment.new.globals.items c.turns.master.turns) (sym (c.in-Step.ensures c.turns.master.turns)) in
    let below : c.in-Step.line ≤ length master = omega (arith, ahead.1, length-map master command) in
    nearer-step (c.turns.master.bound - c.turns.master.turns) (length master) c.turns.master.line c.in-Step.line (left_of (length master) c.args.master.now) ahead.0 below c.turns.invariant.left

pub returns-in-Ended-clause-run : goal.returns-in-Ended-clause-run
returns-in-Ended-clause-run c =
    sym (pause_first (program c.args.image.now) c.args.graph.now (c.turns.master.bound - c.turns.master.turns) c.turns.master.line (control_of c.turns.master) _ (c.in-Ended.ensures c.turns.master.turns)) ∙ c.turns.invariant.run

pub returns-in-Faulted-clause-run : goal.returns-in-Faulted-clause-run
returns-in-Faulted-clause-run c =
    sym (pause_first (program c.args.image.now) c.args.graph.now (c.turns.master.bound - c.turns.master.turns) c.turns.master.line (control_of c.turns.master) _ (c.in-Faulted.ensures c.turns.master.turns)) ∙ c.turns.invariant.run

pub returns-then-master-clause-run : goal.returns-then-master-clause-run
returns-then-master-clause-run c =
    let none_left : c.turns.master.bound - c.turns.master.turns ≡ 0 = omega arith in
    sym (pause_first (program c.args.image.now) c.args.graph.now (c.turns.master.bound - c.turns.master.turns) c.turns.master.line (control_of c.turns.master) _ (c.in-Turn.ensures c.turns.master.turns) ∙ rw none_left) ∙ c.turns.invariant.run

pub turns-preserved : goal.turns-preserved
turns-preserved c = record {
  bounded = omega arith;
  bound = c.turns.invariant.bound;
  left = left-turn (length c.args.image.now.master) c.turns.master.bound c.turns.master.turns c.turns.master.line c.in-Turn.line (left_of (length c.args.image.now.master) c.args.master.now) (omega arith) c.turns.invariant.left;
  run =
      let one_more : c.turns.master.bound - c.turns.master.turns ≡ (c.turns.master.bound - (c.turns.master.turns + 1)) + 1 = omega arith in
      sym (
      pause_first (program c.args.image.now) c.args.graph.now (c.turns.master.bound - c.turns.master.turns) c.turns.master.line (control_of c.turns.master) _ (c.in-Turn.ensures c.turns.master.turns)
      ∙ turn_first (program c.args.image.now) c.args.graph.now (c.turns.master.bound - c.turns.master.turns) (c.turns.master.bound - (c.turns.master.turns + 1)) c.in-Turn.line (control c.run_segment.new.globals.items c.turns.master.turns) one_more)
      ∙ c.turns.invariant.run;
}
