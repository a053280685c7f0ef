-- The messages so far.
use Rattle.std.proofs.Common.{◌≡◌, ◌≤◌}
use Rattle.std.specs.Prelude.{slice_range}
use Rattle.gm_machine.proofs.batches.part.Given as goal

abbrev pub invariant-loop-i : goal.invariant-loop-i
invariant-loop-i l = record {
  ahead : l.fn.from ≤ l.i;
  taken : l.some ≡ slice_range l.messages l.fn.from l.i;
}
