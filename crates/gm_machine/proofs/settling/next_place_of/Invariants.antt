-- The least place among the contributions so far.
use Rattle.std.proofs.Common.{◌<◌, ◌≤◌, ◌^◌}
use Rattle.gm_machine.specs.Settling.{slots_in}
use Rattle.gm_machine.proofs.TargetSteps.{ComesBy}
use Rattle.gm_machine.proofs.settling.next_place_of.Given as goal

abbrev pub invariant-loop-i : goal.invariant-loop-i
invariant-loop-i l = record {
  at_most : l.next ≤ l.bound;
  from_on : l.from ≤ l.bound → l.from ≤ l.next;
  a_place : l.next < l.bound → l.next < 2 ^ 32;
  comes : ComesBy l.from l.next (slots_in l.target) l.parts l.i;
}
