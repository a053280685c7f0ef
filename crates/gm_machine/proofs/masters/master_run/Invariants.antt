-- What is left of the run leads to where all of it leads.
use Rattle.std.proofs.Common.{◌≡◌, ◌-◌, ◌≤◌, length}
use Rattle.gm_image.specs.Views.{program}
use Rattle.gm_machine.specs.Machine.{pause}
use Rattle.gm_machine.specs.Masters.{control_of, left_of}
use Rattle.gm_machine.proofs.masters.master_run.Given as goal

abbrev pub invariant-turns : goal.invariant-turns
invariant-turns l = record {
  bounded : l.master.turns ≤ l.master.bound;
  bound : l.master.bound ≡ l.fn.master.bound;
  left : left_of (length l.image.master) l.master ≤ left_of (length l.image.master) l.fn.master;
  run : pause (program l.image) l.graph (l.master.bound - l.master.turns) l.master.line (control_of l.master)
      ≡ pause (program l.image) l.graph (l.fn.master.bound - l.fn.master.turns) l.fn.master.line (control_of l.fn.master);
}

abbrev pub decreases-turns : goal.decreases-turns
decreases-turns l = l.master.bound - l.master.turns
