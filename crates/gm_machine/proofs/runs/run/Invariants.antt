-- What is left of the run ends as the whole run does, and observers were told the notes in front of those that are left.
use Rattle.std.proofs.Common.{◌≡◌, ◌-◌, ◌≤◌, length, map}
use Rattle.gm_model.specs.Graphs.{node_count}
use Rattle.gm_image.specs.Views.{program}
use Rattle.gm_machine.specs.Fields.{IsFull}
use Rattle.gm_machine.specs.Machine.{machine}
use Rattle.gm_machine.specs.Masters.{control_of, left_of}
use Rattle.gm_machine.specs.Notes.{noted}
use Rattle.gm_machine.specs.Supersteps.{nodes_of}
use Rattle.gm_observe.specs.Audience.{AreToldUpTo}
use Rattle.gm_machine.proofs.RunSteps.{end_from, notes_from}
use Rattle.gm_machine.proofs.runs.run.Given as goal

abbrev pub invariant-steps : goal.invariant-steps
invariant-steps g l = record {
  bounded : l.master.turns ≤ l.master.bound;
  nodes : l.nodes.fields.nodes ≡ node_count l.graph;
  full : IsFull (length l.nodes.fields.rows.items) l.nodes.fields;
  end : end_from (program l.image) l.graph (l.master.bound - l.master.turns) l.master.line (control_of l.master) (nodes_of l.nodes)
      ≡ machine (program l.image) l.graph l.args l.turns;
  told : AreToldUpTo
      (noted (program l.image) l.graph l.args l.turns)
      (notes_from (program l.image) l.graph (l.master.bound - l.master.turns) l.master.line (control_of l.master) (nodes_of l.nodes))
      (map (λ o. (goal.Observer-dyn g (o.vtable, o.value)).seen o.value) l.fn.observers)
      (map (λ o. (goal.Observer-dyn g (o.vtable, o.value)).seen o.value) l.observers);
  same_ways :
      map (λ o. (goal.Observer-dyn g (o.vtable, o.value)).says_of o.value) l.observers
      ≡ map (λ o. (goal.Observer-dyn g (o.vtable, o.value)).says_of o.value) l.fn.observers;
}

abbrev pub decreases-steps : goal.decreases-steps
decreases-steps g l = left_of (length l.image.master) l.master
