-- What the places before this one gave.
use Rattle.std.proofs.Common.{◌≡◌, ◌<◌, ◌≤◌, ◌^◌, ◌-◌, Ok}
use Rattle.gm_value.specs.Taking.{taken}
use Rattle.gm_machine.specs.Settling.{to_slot, closed_one, place_of}
use Rattle.gm_machine.proofs.settling.reduced.Given as goal

abbrev pub invariant-loop-place : goal.invariant-loop-place
invariant-loop-place l = record {
  at_most : l.place ≤ l.places;
  a_place : l.place < l.places → l.place < 2 ^ 32;
  taken_so_far : taken place_of (closed_one l.reduce) l.place l.fn.held (to_slot l.slot l.parts) ≡ Ok l.value;
}

abbrev pub decreases-loop-place : goal.decreases-loop-place
decreases-loop-place l = l.places - l.place
