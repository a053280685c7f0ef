-- What is left of the run ends as the whole run does, and observers were told the notes in front of those that are left.
use Rattle.std.proofs.Common.{◌≡◌, ◌-◌, ◌≤◌, length, map}
use Rattle.gm_model.specs.Graphs.{node_count}
use Rattle.gm_image.specs.Views.{program}
use Rattle.gm_machine.specs.Masters.{control_of, left_of}
use Rattle.gm_workers.specs.Crews.{IsCrew}
use Rattle.gm_workers.proofs.RunLemmas.{RunsOn}
use Rattle.gm_workers.proofs.runs.run_to_end.Given as goal

abbrev pub invariant-steps : goal.invariant-steps
invariant-steps g l = record {
  bounded : l.master.turns ≤ l.master.bound;
  crew : IsCrew (node_count l.graph) (length l.progress.crew.slots.items) l.progress.crew.dealing l.progress.crew.slots.items;
  on : RunsOn (program l.image) l.graph l.args l.turns l.progress (l.master.bound - l.master.turns) l.master.line (control_of l.master)
      (map (λ o. (goal.Observer-dyn g (o.vtable, o.value)).seen o.value) l.fn.observers)
      (map (λ o. (goal.Observer-dyn g (o.vtable, o.value)).seen o.value) l.observers);
  same_ways :
      map (λ o. (goal.Observer-dyn g (o.vtable, o.value)).says_of o.value) l.observers
      ≡ map (λ o. (goal.Observer-dyn g (o.vtable, o.value)).says_of o.value) l.fn.observers;
}

abbrev pub decreases-steps : goal.decreases-steps
decreases-steps g l = left_of (length l.plain.master) l.master
