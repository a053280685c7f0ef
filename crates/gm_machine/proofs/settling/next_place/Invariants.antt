-- The least place among the contributions so far.
use Rattle.std.proofs.Common.{ℕ, ◌<◌, ◌≤◌, ◌^◌, get_or}
use Rattle.gm_machine.specs.declared.contributions.ContributionPart.{ContributionPart}
use Rattle.gm_machine.specs.Settling.{IsPast}
use Rattle.gm_machine.proofs.settling.next_place.Given as goal

abbrev pub invariant-loop-c : goal.invariant-loop-c
invariant-loop-c l = record {
  at_most : l.next ≤ l.bound;
  from_on : l.from ≤ l.bound → l.from ≤ l.next;
  a_place : l.next < l.bound → l.next < 2 ^ 32;
  past : (k : ℕ) (d : ContributionPart) → k < l.c-index → IsPast l.slot l.from l.next (get_or l.parts k d);
}
