-- What the places before this one gave.
use Rattle.std.proofs.Common.{◌≡◌, ◌<◌, ◌≤◌, ◌^◌, ◌-◌, Ok, map, length}
use Rattle.gm_machine.specs.Expressions.{value_at}
use Rattle.gm_machine.specs.Settling.{slots_in}
use Rattle.gm_machine.proofs.TargetSteps.{taken_to}
use Rattle.gm_machine.proofs.settling.take_target.Given as goal

abbrev pub invariant-loop-place : goal.invariant-loop-place
invariant-loop-place l = record {
  at_most : l.place ≤ l.places;
  a_place : l.place < l.places → l.place < 2 ^ 32;
  taken_so_far : taken_to l.reduce (slots_in l.target) (map (value_at l.values) (slots_in l.target)) l.parts l.place ≡ Ok l.held.items;
  several : 2 ≤ length l.held.items;
}

abbrev pub decreases-loop-place : goal.decreases-loop-place
decreases-loop-place l = l.places - l.place
