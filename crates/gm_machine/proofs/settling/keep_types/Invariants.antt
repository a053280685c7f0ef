-- What is left leads to what all lead to.
use Rattle.std.proofs.Common.{◌≡◌, map}
use Rattle.gm_value.specs.Numbers.{number_of}
use Rattle.gm_value.specs.Tuples.{values_at}
use Rattle.gm_machine.proofs.TargetSteps.{kept_then, left_at}
use Rattle.gm_machine.proofs.settling.keep_types.Given as goal

abbrev pub invariant-loop-i : goal.invariant-loop-i
invariant-loop-i l = kept_then l.kept.items (left_at l.held l.tuple l.i) ≡ values_at l.held (map number_of l.tuple)
